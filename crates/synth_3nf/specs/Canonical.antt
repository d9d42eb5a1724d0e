-- Canonical dependencies: those that are left where each in turn is dropped that follows from the others left.
use Rattle.std.specs.Prelude.{if◌then◌else◌, List, [], ◌∷◌, ◌++◌}
use Rattle.rel_base.specs.declared.dependency.Fd.{Fd}
use Rattle.synth_3nf.specs.Reached.{follows}

-- the dependencies that are kept, where the first ones were tried and the rest are tried in their order
unfoldable pub tried : List Fd → List Fd → List Fd
tried kept [] = kept
tried kept (fd ∷ rest) = tried (if follows (kept ++ rest) fd then kept else kept ++ fd ∷ []) rest

unfoldable pub canonical : List Fd → List Fd
canonical fds = tried [] fds
