use Rattle.std.proofs.Common.{◌∙◌, ◌+◌, arith, sym}
use Rattle.csv_load.proofs.Cuts.{is_cut, stands_at_line_feed}
use Rattle.csv_load.proofs.cutting.cut_without_quotes.Goals as goal

pub returns : goal.returns
returns c =
    let text = c.args.text.now in
    let end = c.in_ok-end.end in
    let within = c.in_ok-end.ensures.within in
    is_cut text (end + 1) (omega (arith, within)) c.requires (rw c.split_at.ensures.back at (c.begins_record.ensures c.if-not-begins_record.false))
    (stands_at_line_feed text end within c.in_ok-end.ensures.found (rw c.split_at.ensures.front at (sym c.contains.ensures.value ∙ c.if-contains.false)))
