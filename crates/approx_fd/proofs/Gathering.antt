-- Lists of all columns, one column after another.
use Rattle.std.proofs.Common.{◌≡◌, ℕ, ◌+◌, ◌<◌, refl, sym, ap, ap₂, ◌∙◌, subst, List, [], ◌∷◌, ◌++◌, length, map}
use Rattle.std.specs.List.{All, flat_map}
use Rattle.std.proofs.lemmas.List.Concat.{flat_map-append}
use Rattle.std.proofs.Common.{append-nil}
use Rattle.col_set.specs.declared.target.Target.{Target}
use Rattle.col_set.specs.declared.target.Target.TheVariants.{Col, RowId}
use Rattle.col_set.specs.ColSet.{upto}
use Rattle.col_set.specs.AllSets.{Listed-upto_within}
use Rattle.col_set.specs.Lists.{Listed}
use Rattle.rel_base.specs.CodeTable.{CodeTable}
use Rattle.rel_base.proofs.States.{All-from}
use Rattle.stripped_partition.proofs.OrderLoops.{upto_more}
use Rattle.approx_fd.specs.declared.found.Approx.{Approx}
use Rattle.approx_fd.specs.declared.found.NearKey.{NearKey}
use Rattle.approx_fd.specs.Removal.{removed_in}
use Rattle.approx_fd.specs.Approximate.{nearly_least, approx_of, approx_to_in, approximate_by, approximate_in, near_keys_by, near_keys_in}
use Rattle.approx_fd.specs.Search.{Searching, counted}

-- the left sides of one column, each with how many rows are to be removed
abbrev pub dependencies : ℕ → List NearKey → List Approx
dependencies a ks = map (λ (k : NearKey). record { fd = record { left = k.columns; right = a }; removed = k.removed }) ks

module _ (s : CodeTable) (most : ℕ) where
  abbrev pub settled_for : ℕ → List Approx
  settled_for = approx_to_in most s

  own : (a : ℕ) (xs : List ℕ) → dependencies a (counted s (Col a) xs) ≡ map (approx_of (λ x. removed_in s x (Col a)) a) xs
  own a [] = refl
  own a (x ∷ xs) = ap (λ (fs : List Approx). record { fd = record { left = x; right = a }; removed = removed_in s x (Col a) } ∷ fs) (own a xs)

  one_more : (k : ℕ) → flat_map settled_for (upto (k + 1)) ≡ flat_map settled_for (upto k) ++ settled_for k
  one_more k = ap (flat_map settled_for) (upto_more k) ∙ flat_map-append settled_for (upto k) (k ∷ []) ∙ ap (λ (fs : List Approx). flat_map settled_for (upto k) ++ fs) (append-nil (settled_for k))

  alike : (search : Searching) (t : Target) (found : List NearKey) → search.table ≡ s → search.most ≡ most
      → found ≡ counted search.table t (nearly_least (length search.table.codes) (λ x. removed_in search.table x t) search.most t) → found ≡ counted s t (nearly_least (length s.codes) (λ x. removed_in s x t) most t)
  alike search t found e f g =
      subst (λ (n : ℕ). found ≡ counted s t (nearly_least (length s.codes) (λ x. removed_in s x t) n t)) f
      (subst (λ (u : CodeTable). found ≡ counted u t (nearly_least (length u.codes) (λ x. removed_in u x t) search.most t)) e g)

  -- one column
  pub one-column : (search : Searching) (a : ℕ) (before after : List Approx) (found : List NearKey) → search.table ≡ s → search.most ≡ most → before ≡ []
      → found ≡ counted search.table (Col a) (nearly_least (length search.table.codes) (λ x. removed_in search.table x (Col a)) search.most (Col a)) → after ≡ before ++ dependencies a found → after ≡ approx_to_in most s a
  one-column search a before after found e f h g m =
      m ∙ ap₂ (λ (xs ys : List Approx). xs ++ ys) h (ap (dependencies a) (alike search (Col a) found e f g) ∙ own a (nearly_least (length s.codes) (λ x. removed_in s x (Col a)) most (Col a)))

  -- one column more
  pub gathered-more : (search : Searching) (a : ℕ) (before after : List Approx) (found : List NearKey) → search.table ≡ s → search.most ≡ most → before ≡ flat_map settled_for (upto a)
      → found ≡ counted search.table (Col a) (nearly_least (length search.table.codes) (λ x. removed_in search.table x (Col a)) search.most (Col a)) → after ≡ before ++ dependencies a found → after ≡ flat_map settled_for (upto (a + 1))
  gathered-more search a before after found e f h g m =
      m ∙ ap₂ (λ (xs ys : List Approx). xs ++ ys) h (ap (dependencies a) (alike search (Col a) found e f g) ∙ own a (nearly_least (length s.codes) (λ x. removed_in s x (Col a)) most (Col a))) ∙ sym (one_more a)

  pub gathered-all : (n : ℕ) (found : List Approx) → n ≡ length s.codes → found ≡ flat_map settled_for (upto n) → found ≡ approximate_in most s
  unfolding approximate_by
  gathered-all n found e h = h ∙ ap (λ (k : ℕ). flat_map settled_for (upto k)) e

  pub keys-all : (search : Searching) (found : List NearKey) → search.table ≡ s → search.most ≡ most
      → found ≡ counted search.table RowId (nearly_least (length search.table.codes) (λ x. removed_in search.table x RowId) search.most RowId) → found ≡ near_keys_in most s
  unfolding near_keys_by
  keys-all search found e f g = alike search RowId found e f g

pub within-columns : (n : ℕ) (columns : List ℕ) → columns ≡ upto n → All (λ c. c < n) columns
within-columns n columns e = All-from (λ (c : ℕ). c < n) columns (λ c h. Listed-upto_within n c (subst (Listed c) e h))
