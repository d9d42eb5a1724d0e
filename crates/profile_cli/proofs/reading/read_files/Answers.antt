use Rattle.std.proofs.Common.{◌≡◌, ◌∙◌, ◌<◌, ◌++◌, ℕ, List, Some, Option, length, get_or, ap, subst, refl, arith}
use Rattle.std.specs.Prelude.{IfSome}
use Rattle.ports.specs.Files.{Files, bytes_of}
use Rattle.profile_cli.specs.Contents.{file_content, refused_as}
use Rattle.profile_cli.specs.FilesRead.{Understands, kind_of, relation_in, text_in}
use Rattle.profile_cli.specs.declared.reading.FileRead.TheVariants.{Read}
use Rattle.task_base.specs.Reading.{Reading, if_relation, if_text, no_reading}
use Rattle.task_base.specs.declared.reads.ReadAs.{ReadAs}
use Rattle.task_base.proofs.Facts.{IfSome-always, IfSome-both, SameFaults-refl, SameFaults-trans, unless_err}
use Rattle.profile_cli.proofs.Files.{count_more, first_refusal-hit, first_refusal-none, first_refusal-pass, one_more, relation_count, text_count}
use Rattle.profile_cli.proofs.reading.read_files.Goals as goal

pub loop-place-init : goal.loop-place-init
loop-place-init g c =
    let H = g.H.Shelf in
    record {
      known = IfSome-always (H.content c.args.shelf.now) (λ held. (first_refusal-none c.args.means.now.limits held, c.nothing-found.ensures.relations, c.nothing-found.ensures.texts));
      relations = ap length c.nothing-found.ensures.relations;
      texts = ap length c.nothing-found.ensures.texts;
      content = refl;
      closed = c.requires;
      reads = SameFaults-refl H.read_faults H.read_last c.args.shelf.now;
      writes = SameFaults-refl H.write_faults H.write_last c.args.shelf.now;
      opens = omega arith;
    }

pub returns-in-Refused-clause-files : goal.returns-in-Refused-clause-files
returns-in-Refused-clause-files g c =
    let H = g.H.Shelf in
    let reads : List Reading = c.args.reads.now in
    let place = c.loop-place.place in
    let limits = c.args.means.now.limits in
    let inside : place < length reads = subst (λ (n : ℕ). place < n) c.len-place-end.ensures c.loop-place-test.true in
    IfSome-both (H.content c.args.shelf.now)
    (λ held known refused.
    let here : refused_as (get_or reads place no_reading).1 limits (bytes_of held (get_or reads place no_reading).0) ≡ Some (c.in-Refused.rec, c.in-Refused.why) =
    subst (λ (name : List ℕ). refused_as (get_or reads place no_reading).1 limits (bytes_of held name) ≡ Some (c.in-Refused.rec, c.in-Refused.why)) c.at-read_as.ensures.name
    (subst (λ (k : ReadAs). refused_as k limits (bytes_of held c.at-read_as.result.0.now) ≡ Some (c.in-Refused.rec, c.in-Refused.why)) c.at-read_as.ensures.read_as refused) in
    (known.0, here, first_refusal-hit limits held reads place c.in-Refused.rec c.in-Refused.why inside known.0 here))
    c.loop-place.invariant.known
    (subst (λ (content : Option Files). IfSome content (λ held. refused_as c.at-read_as.result.1 limits (bytes_of held c.at-read_as.result.0.now) ≡ Some (c.in-Refused.rec, c.in-Refused.why))) c.loop-place.invariant.content c.in-Refused.ensures.bytes)

pub loop-place-preserved : goal.loop-place-preserved
loop-place-preserved g c =
    let H = g.H.Shelf in
    let reads : List Reading = c.args.reads.now in
    let place = c.loop-place.place in
    let limits = c.args.means.now.limits in
    let found = c.in-Read.held in
    let inside : place < length reads = subst (λ (n : ℕ). place < n) c.len-place-end.ensures c.loop-place-test.true in
    let kind : kind_of found ≡ (get_or reads place no_reading).1 = c.in-Read.ensures.read_as ∙ c.at-read_as.ensures.read_as in
    let relations : c.push.new.self.relations.items ≡ c.loop-place.found.relations.items ++ relation_in found = unless_err c.push.result c.if-is_err.ensures.value c.push.ensures.relations in
    let texts : c.push.new.self.texts.items ≡ c.loop-place.found.texts.items ++ text_in found = unless_err c.push.result c.if-is_err.ensures.value c.push.ensures.texts in
    record {
      known = IfSome-both (H.content c.args.shelf.now)
          (λ held known read.
          let here : Understands (Read found) (get_or reads place no_reading).1 limits (bytes_of held (get_or reads place no_reading).0) =
          subst (λ (name : List ℕ). Understands (Read found) (get_or reads place no_reading).1 limits (bytes_of held name)) c.at-read_as.ensures.name
          (subst (λ (k : ReadAs). Understands (Read found) k limits (bytes_of held c.at-read_as.result.0.now)) c.at-read_as.ensures.read_as read) in (
            first_refusal-pass limits held reads place inside known.0 here.0,
            one_more (λ (r : Reading). if_relation r.1 (file_content (bytes_of held r.0))) reads place c.loop-place.found.relations.items c.push.new.self.relations.items (relation_in found) inside relations here.1 known.1,
            one_more (λ (r : Reading). if_text r.1 (bytes_of held r.0)) reads place c.loop-place.found.texts.items c.push.new.self.texts.items (text_in found) inside texts here.2 known.2,
          ))
          c.loop-place.invariant.known
          (subst (λ (content : Option Files). IfSome content (λ held. Understands (Read found) c.at-read_as.result.1 limits (bytes_of held c.at-read_as.result.0.now))) c.loop-place.invariant.content c.in-Read.ensures.bytes);
      relations = count_more (λ (r : Reading). if_relation r.1 r.0) reads place c.loop-place.found.relations.items c.push.new.self.relations.items (relation_in found) inside relations
          (relation_count found (get_or reads place no_reading).1 (get_or reads place no_reading).0 kind) c.loop-place.invariant.relations;
      texts = count_more (λ (r : Reading). if_text r.1 r.0) reads place c.loop-place.found.texts.items c.push.new.self.texts.items (text_in found) inside texts
          (text_count found (get_or reads place no_reading).1 (get_or reads place no_reading).0 kind) c.loop-place.invariant.texts;
      content = c.in-Read.ensures.content ∙ c.loop-place.invariant.content;
      closed = c.in-Read.ensures.closed;
      reads = SameFaults-trans H.read_faults H.read_last c.args.shelf.now c.loop-place.shelf c.read_file.new.shelf c.loop-place.invariant.reads c.in-Read.ensures.reads;
      writes = SameFaults-trans H.write_faults H.write_last c.args.shelf.now c.loop-place.shelf c.read_file.new.shelf c.loop-place.invariant.writes c.in-Read.ensures.writes;
      opens = let before = c.loop-place.invariant.opens in let more = c.in-Read.ensures.opens in omega arith;
    }
