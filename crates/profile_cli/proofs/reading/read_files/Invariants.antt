use Rattle.std.proofs.Common.{◌≡◌, ◌≤◌, ◌+◌, length, take, None}
use Rattle.std.specs.Prelude.{IfSome}
use Rattle.ports.specs.Faults.{SameFaults}
use Rattle.ports.specs.Files.{Nothing}
use Rattle.profile_cli.specs.Contents.{contents_of, first_refusal, texts_of}
use Rattle.task_base.specs.Reading.{relation_names, text_names}
use Rattle.profile_cli.proofs.reading.read_files.Given as goal

abbrev pub invariant-loop-place : goal.invariant-loop-place
invariant-loop-place g l =
    let H = g.H.Shelf in
    record {
      known : IfSome (H.content l.fn.shelf) (λ held.
          (first_refusal l.means.limits held (take l.place l.reads) ≡ None) × (l.found.relations.items ≡ contents_of held (take l.place l.reads)) × (l.found.texts.items ≡ texts_of held (take l.place l.reads)));
      relations : length l.found.relations.items ≡ length (relation_names (take l.place l.reads));
      texts : length l.found.texts.items ≡ length (text_names (take l.place l.reads));
      content : H.content l.shelf ≡ H.content l.fn.shelf;
      closed : H.opened l.shelf ≡ Nothing;
      reads : SameFaults H.read_faults H.read_last l.fn.shelf l.shelf;
      writes : SameFaults H.write_faults H.write_last l.fn.shelf l.shelf;
      opens : H.opens l.shelf ≤ H.opens l.fn.shelf + l.place;
    }
