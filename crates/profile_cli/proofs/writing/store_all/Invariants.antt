use Rattle.std.proofs.Common.{◌≡◌, length, take}
use Rattle.std.specs.Option.{option_map}
use Rattle.ports.specs.Faults.{SameFaults}
use Rattle.ports.specs.Files.{Nothing}
use Rattle.profile_cli.specs.Output.{with_files}
use Rattle.profile_cli.proofs.writing.store_all.Given as goal

abbrev pub invariant-loop-name : goal.invariant-loop-name
invariant-loop-name g l =
    let H = g.H.Shelf in
    record {
      stored : H.content l.shelf ≡ option_map (with_files (take (length l.yielded) l.fn.files.items)) (H.content l.fn.shelf);
      closed : H.opened l.shelf ≡ Nothing;
      writes : SameFaults H.write_faults H.write_last l.fn.shelf l.shelf;
      reads : SameFaults H.read_faults H.read_last l.fn.shelf l.shelf;
      opens : H.opens l.shelf ≡ H.opens l.fn.shelf;
    }
