use Rattle.std.proofs.Common.{◌≡◌, ◌∙◌, ◌∷◌, ℕ, List, [], length, take, refl, sym, subst, Option}
use Rattle.std.specs.Option.{option_map}
use Rattle.std.proofs.lemmas.List.{length-append}
use Rattle.std.proofs.lemmas.Iterator.Adapters.{YieldsList-from_vec}
use Rattle.std.proofs.lemmas.Iterator.Consumers.{YieldsList-turn}
use Rattle.ports.specs.Faults.{Rose, RoseAt}
use Rattle.ports.specs.Files.{Files, with_file}
use Rattle.ports.specs.Lists.{File, file_at}
use Rattle.ports.specs.Whole.{Stores}
use Rattle.ports.specs.declared.whole_files.Storing.TheVariants.{Failed}
use Rattle.profile_cli.specs.Output.{with_files}
use Rattle.task_base.proofs.Facts.{at_place}
use Rattle.profile_cli.proofs.Storing.{stored_more, stored_none}
use Rattle.task_base.proofs.Facts.{SameFaults-refl, SameFaults-trans}
use Rattle.profile_cli.proofs.writing.store_all.Goals as goal

pub loop-name-init : goal.loop-name-init
loop-name-init g c =
    let H = g.H.Shelf in
    record {
      stored = stored_none c.args.files.items (H.content c.args.shelf.now);
      closed = c.requires;
      writes = SameFaults-refl H.write_faults H.write_last c.args.shelf.now;
      reads = SameFaults-refl H.read_faults H.read_last c.args.shelf.now;
      opens = refl;
    }

pub loop-name-preserved : goal.loop-name-preserved
loop-name-preserved g c =
    let H = g.H.Shelf in
    let files : List File = c.args.files.items in
    let n : ℕ = length c.loop-name.yielded in
    let file : File = (c.in-Some.name, c.in-Some.text) in
    let from = c.into_iter-name-iterator.ensures.into_iter_gives in
    let turn = YieldsList-turn (YieldsList-from_vec files from.0 (from.1 ∙ c.args.files.ok.0)) c.loop-name.yielded c.loop-name.name-iterator c.loop-name.yielded_by c.next.result c.next.new.self file c.in-Some.is c.next.ensures.steps in
    record {
      stored =
          subst (λ (m : ℕ). H.content c.store_file.new.shelf ≡ option_map (with_files (take m files)) (H.content c.args.shelf.now)) (sym (length-append c.loop-name.yielded (file ∷ [])))
          (stored_more files n file (H.content c.args.shelf.now) (H.content c.loop-name.shelf) (H.content c.store_file.new.shelf) turn.0 (at_place files n file ([], []) turn.0 turn.1)
          c.loop-name.invariant.stored
          (subst (λ (bytes : List ℕ). H.content c.store_file.new.shelf ≡ option_map (with_file c.in-Some.name bytes) (H.content c.loop-name.shelf)) c.bytes.ensures c.in-Stored.ensures.stores));
      closed = c.in-Stored.ensures.closed;
      writes = SameFaults-trans H.write_faults H.write_last c.args.shelf.now c.loop-name.shelf c.store_file.new.shelf c.loop-name.invariant.writes c.in-Stored.ensures.writes;
      reads = SameFaults-trans H.read_faults H.read_last c.args.shelf.now c.loop-name.shelf c.store_file.new.shelf c.loop-name.invariant.reads c.in-Stored.ensures.reads;
      opens = c.in-Stored.ensures.opens ∙ c.loop-name.invariant.opens;
    }

pub returns-in-Failed-clause-stored : goal.returns-in-Failed-clause-stored
returns-in-Failed-clause-stored g c =
    let H = g.H.Shelf in
    let files : List File = c.args.files.items in
    let n : ℕ = length c.loop-name.yielded in
    let file : File = (c.in-Some.name, c.in-Some.text) in
    let from = c.into_iter-name-iterator.ensures.into_iter_gives in
    let turn = YieldsList-turn (YieldsList-from_vec files from.0 (from.1 ∙ c.args.files.ok.0)) c.loop-name.yielded c.loop-name.name-iterator c.loop-name.yielded_by c.next.result c.next.new.self file c.in-Some.is c.next.ensures.steps in
    let at : file ≡ file_at files n = at_place files n file ([], []) turn.0 turn.1 in
    let content : Option Files = option_map (with_files (take n files)) (H.content c.args.shelf.now) in
    record {
      place = n;
      within = turn.0;
      shelf =
          subst (λ (f : File). RoseAt f.0 H.write_faults H.write_last c.args.shelf.now c.store_file.new.shelf) at
          (let rose = c.in-Failed.ensures.writes in
          record { count = subst (λ (m : ℕ). Rose m (H.write_faults c.store_file.new.shelf)) c.loop-name.invariant.writes.count rose.count; name_is = rose.name_is });
      files_are =
          subst (λ (f : File). Stores Failed f.0 f.1 content (H.content c.store_file.new.shelf)) at
          (subst (λ (bytes : List ℕ). Stores Failed c.in-Some.name bytes content (H.content c.store_file.new.shelf)) c.bytes.ensures
          (subst (λ (before : Option Files). Stores Failed c.in-Some.name c.bytes.result.now before (H.content c.store_file.new.shelf)) c.loop-name.invariant.stored c.in-Failed.ensures.stores));
    }
