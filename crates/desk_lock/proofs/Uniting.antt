-- What joining two passes, and closing the desk, come to.
use Rattle.std.proofs.Common.{◌≡◌, ℕ, ◌<◌, ◌≤◌, List, [], ◌∷◌, ◌++◌, sym, refl, ap, ◌∙◌, subst, None}
use Rattle.std.proofs.lemmas.List.{append-nil}
use mathlib.Core.Option.{some, some-injective}
use lib.ListN.{get_elem?}
use Rattle.atomic_table.specs.Table.{Final, Seen}
use Rattle.desk_lock.specs.declared.history.Entry.{Entry}
use Rattle.desk_lock.specs.declared.view.View.{View}
use Rattle.desk_lock.specs.declared.view.Heard.{Heard}
use Rattle.desk_lock.specs.declared.view.Terms.{Terms}
use Rattle.desk_lock.specs.declared.view.Stage.TheVariants.{Served}
use Rattle.desk_lock.specs.History.{NoneIn, GoesOn, Legal}
use Rattle.desk_lock.specs.Views.{InHome, Sat, at_stage, seeing, longer, hearing, united, Listens}
use Rattle.desk_lock.specs.Rule.{Stands, Kept}
use Rattle.desk_lock.proofs.Histories.{none-end, none-all}

module _ {T C R : Type 0} where
  pub unites : (m0 m1 m2 : Sat T C R) (w : View T C R) → m0.0.heard ≡ None → m1 ≡ (hearing m0.0 w, m0.1) → Listens m1 m2
      → (m2 ≡ (united m0.0 w, m0.1)) × GoesOn (InHome m0.0) m0.0.seen (longer m0.0.seen w.seen) × GoesOn (InHome w) w.seen (longer m0.0.seen w.seen)
  unites m0 m1 m2 w quiet e told = let v : View T C R = m0.0 in let h : Heard C R = record { low = w.low; high = w.high; joined = w.joined; seen = w.seen } in
      let t = subst (λ (m : Sat T C R). Listens m m2) e told h refl in (
        t.0 ∙ (λ i. (record v { joined = v.joined ++ (w.low, w.high) ∷ w.joined; seen = longer v.seen w.seen; heard = sym quiet i }, m0.1)),
        t.1,
        t.2,
      )

  module _ (taken : T → C → R → T → Type 0) (may : T → ℕ → List (Entry C R) → C → Type 0) (key : Terms T) where
    -- the state that was at home is the one after all that was seen
    pub closes : (id t : ℕ) (v : View T C R) (ws : List ℕ) (xs : List T) (x : T) → v.stage ≡ Served t None → Final (Seen (Kept taken may key) id v) ws xs → get_elem? xs 0 ≡ some x
        → (y : T) × (x ≡ y) × Legal taken may key.opened.value v.seen y × NoneIn (λ n. key.passes ≤ n) v.seen
    closes id t v ws xs x is f at = let r = f.1.0 in let k = r.each_seat id v f.1.1 in let st = subst (Stands r.history r.drawn r.away r.owner id v.seen) is k.stands in
        let home = f.4 0 r.state (r.at_home st.3) in (
          r.state,
          some-injective x r.state (sym at ∙ home),
          subst (λ (l : List (Entry C R)). Legal taken may key.opened.value l r.state) (sym st.4) r.legal,
          subst (NoneIn (λ n. key.passes ≤ n)) (sym st.4) r.numbered,
        )

    pub closed : (id u : ℕ) (v w : View T C R) (more : List (Entry C R)) (ws : List ℕ) (xs : List T) (x : T) → w ≡ seeing more (at_stage (Served u None) v) → Final (Seen (Kept taken may key) id w) ws xs → get_elem? xs 0 ≡ some x
        → (y : T) × (x ≡ y) × Legal taken may key.opened.value (v.seen ++ more) y × NoneIn (λ n. key.passes ≤ n) (v.seen ++ more)
    closed id u v w more ws xs x is f at = closes id u (seeing more (at_stage (Served u None) v)) ws xs x refl (subst (λ (z : View T C R). Final (Seen (Kept taken may key) id z) ws xs) is f) at

    pub whole : (v : View T C R) (more : List (Entry C R)) (y : T) → NoneIn (InHome v) more → Legal taken may key.opened.value (v.seen ++ more) y → NoneIn (λ n. key.passes ≤ n) (v.seen ++ more)
        → ((n : ℕ) → n < key.passes → InHome v n) → NoneIn (λ n. key.passes ≤ n) v.seen × Legal taken may key.opened.value v.seen y
    whole v more y none legal numbered all = let nothing : more ≡ [] = none-all (InHome v) key.passes more all none (none-end (λ n. key.passes ≤ n) v.seen more numbered) in
        subst (λ (l : List (Entry C R)). NoneIn (λ n. key.passes ≤ n) l × Legal taken may key.opened.value l y) (ap (λ (l : List (Entry C R)). v.seen ++ l) nothing ∙ append-nil v.seen) (numbered, legal)
