-- What a column set reaches by a list of dependencies, by passes over them.
use Rattle.std.specs.Prelude.{if◌then◌else◌, ℕ, zero, suc, Bool, List, [], ◌∷◌, length}
use Rattle.col_set.specs.ColSet.{Columns, has, with, subset}
use Rattle.rel_base.specs.declared.dependency.Fd.{Fd}

-- X, and the right column of each dependency whose left side has been reached when the pass comes to it
unfoldable pub pass : List Fd → Columns → Columns
pass [] x = x
pass (fd ∷ fds) x = pass fds (if subset fd.left x then with x fd.right else x)

-- the same by so many passes, one after another
unfoldable pub passes : ℕ → List Fd → Columns → Columns
passes zero fds x = x
passes (suc k) fds x = passes k fds (pass fds x)

-- What X reaches where passes are repeated until nothing is added: before that each pass adds the right column of one more
-- dependency, so as many passes as there are dependencies are enough.
unfoldable pub reached : List Fd → Columns → Columns
reached fds x = passes (length fds) fds x

-- whether a dependency follows from those listed: its right column is reached from its left side
abbrev pub follows : List Fd → Fd → Bool
follows fds fd = has (reached fds fd.left) fd.right
