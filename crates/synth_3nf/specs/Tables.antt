-- The tables that dependencies of n columns make.
use Rattle.std.specs.Prelude.{if◌then◌else◌, ◌==◌, ◌||◌, ℕ, Bool, List, [], ◌∷◌, ◌++◌, map}
use Rattle.std.specs.List.{filter, list_any}
use Rattle.col_set.specs.ColSet.{Columns, all, subset, union, set_of, all_sets}
use Rattle.col_set.specs.Minimal.{proper_subset}
use Rattle.rel_base.specs.declared.dependency.Fd.{Fd}
use Rattle.rel_base.specs.declared.dependency.Table.{Table}
use Rattle.fd_closure.specs.Keys.{shrunk}
use Rattle.synth_3nf.specs.Reached.{reached}
use Rattle.synth_3nf.specs.Canonical.{canonical}

-- the left sides of dependencies, each once, in report order
unfoldable pub left_sides : ℕ → List Fd → List Columns
left_sides n fds = filter (λ x. list_any (λ fd. fd.left == x) fds) (all_sets n)

-- X with the right columns of the dependencies whose left side it is
unfoldable pub with_rights : List Fd → Columns → Columns
with_rights fds x = union x (set_of (map (λ fd. fd.right) (filter (λ fd. fd.left == x) fds)))

-- a table for each left side, of which it is the key
abbrev pub tables_of_lefts : ℕ → List Fd → List Table
tables_of_lefts n fds = map (λ x. record { columns = with_rights fds x; key = x }) (left_sides n fds)

-- whether X reaches all n columns
abbrev pub reaches_all : ℕ → List Fd → Columns → Bool
reaches_all n fds x = subset (all n) (reached fds x)

-- the key of all n columns: each column is tried, from the last one on, and dropped where the rest still reaches all
unfoldable pub whole_key : ℕ → List Fd → Columns
whole_key n fds = shrunk (reaches_all n fds) n (all n)

-- the tables, and behind them one more of that key alone where none of them has columns that reach all
unfoldable pub with_key_table : ℕ → List Fd → List Table → List Table
with_key_table n fds ts = if list_any (λ t. reaches_all n fds t.columns) ts then ts else ts ++ record { columns = whole_key n fds; key = whole_key n fds } ∷ []

-- whether a table lies inside one of the earlier ones, or properly inside one of the later ones
abbrev pub is_inside : List Table → List Table → Table → Bool
is_inside earlier later t = list_any (λ e. subset t.columns e.columns) earlier || list_any (λ l. proper_subset t.columns l.columns) later

-- of the tables behind the earlier ones, those that do not
unfoldable pub outermost : List Table → List Table → List Table
outermost earlier [] = []
outermost earlier (t ∷ later) = (if is_inside earlier later t then [] else t ∷ []) ++ outermost (earlier ++ t ∷ []) later

-- the tables of dependencies of n columns, each with its key
unfoldable pub synthesis : ℕ → List Fd → List Table
synthesis n fds = outermost [] (with_key_table n fds (tables_of_lefts n (canonical fds)))
