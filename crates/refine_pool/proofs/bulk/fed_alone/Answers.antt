use Rattle.std.proofs.Common.{◌≡◌, length}
use Rattle.refine_pool.proofs.Crewing.{done}
use Rattle.refine_pool.proofs.Left.{alone, desk_left, left_all}
use Rattle.refine_pool.proofs.bulk.fed_alone.Goals as goal

pub returns-in-Done-clause-left : goal.returns-in-Done-clause-left
returns-in-Done-clause-left g c =
    left_all c.args.book c.close-book.result c.args.batches.items c.feed-fed.result.replies.items (done (length c.feed-fed.result.replies.items ≡ length c.args.batches.items) c.feed-fed.result.ending c.in-Done.is c.feed-fed.ensures.all)
    (desk_left c.in-Ok.opened.0 c.feed-fed.result.pass.pass c.args.book c.close-book.result c.args.batches.items c.feed-fed.result.replies.items c.in-Ok.ensures.opened.0 c.in-Ok.ensures.own.sound c.close-book.ensures.sound (alone c.in-Ok.opened.0 c.in-Ok.opened.1.pass c.feed-fed.result.pass.pass c.args.book c.close-book.result c.in-Ok.ensures.fresh c.in-Ok.ensures.opened.1 c.feed-fed.ensures.on c.close-book.ensures.whole) c.feed-fed.ensures.fed)

pub returns-in-NoMemory-clause-so_far : goal.returns-in-NoMemory-clause-so_far
returns-in-NoMemory-clause-so_far g c =
    desk_left c.in-Ok.opened.0 c.feed-fed.result.pass.pass c.args.book c.close-book.result c.args.batches.items c.feed-fed.result.replies.items c.in-Ok.ensures.opened.0 c.in-Ok.ensures.own.sound c.close-book.ensures.sound (alone c.in-Ok.opened.0 c.in-Ok.opened.1.pass c.feed-fed.result.pass.pass c.args.book c.close-book.result c.in-Ok.ensures.fresh c.in-Ok.ensures.opened.1 c.feed-fed.ensures.on c.close-book.ensures.whole) c.feed-fed.ensures.fed
