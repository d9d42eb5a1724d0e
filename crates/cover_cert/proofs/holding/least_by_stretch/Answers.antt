use Rattle.std.proofs.Common.{◌≡◌, ◌∙◌, ℕ, List, ap, ap₂, arith, max, IfOk}
use Rattle.rayon.specs.Lists.{chunks_of, chunks_size, chunks_slice}
use Rattle.rayon.proofs.ToStd.{slice-AllZip}
use Rattle.cover_cert.specs.Holding.{IsLeastOf}
use Rattle.cover_cert.proofs.Visits.{each_made}
use Rattle.cover_cert.proofs.holding.least_by_stretch.Goals as goal

pub returns : goal.returns
returns g c =
    let P = IsLeastOf c.args.snapshot.now c.args.claims.now in
    let made = c.in_ok-places.ensures in
    let some = c.requires.some in
    let size : max c.args.stretch 1 ≡ c.args.stretch = omega arith in
    let stretches : List (List (ℕ × ℕ)) = chunks_of c.args.stretch c.args.visits.now in
    let slice = ap (λ it. chunks_of (max (chunks_size it) 1) (chunks_slice it)) c.map.ensures.base ∙ ap₂ (λ n xs. chunks_of (max n 1) xs) c.par_chunks.ensures.size c.par_chunks.ensures.slice
    ∙ ap (λ n. chunks_of n c.args.visits.now) size in
    let chain = rw (c.map.ensures.f) at made.1 in
    let zip = slice-AllZip chain.0 stretches (chain.1 ∙ slice) (λ part r. IfOk r (P part)) made.0 chain.2 in
    each_made P stretches made.0 c.in_ok-places.places zip made.2
