use Rattle.csv_load.proofs.Parting.{is_parted}
use Rattle.csv_load.proofs.parted.part_at_giant.Goals as goal

pub returns : goal.returns
returns c =
    rw (c.split_at-2.ensures.back, c.split_at.ensures.front, c.split_at.ensures.back)
    (is_parted c.args.bytes.now c.after_marks-text.result.now c.args.limit c.in_ok-size.size c.end_of_record.result c.after_marks-text.ensures c.in_ok-size.ensures.wide (rw c.split_at.ensures.back at c.end_of_record.ensures.ends))
