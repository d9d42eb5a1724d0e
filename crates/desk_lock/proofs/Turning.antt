-- The steps of one turn, put together.
use Rattle.std.proofs.Common.{◌≡◌, ◌<◌, ℕ, List, [], ◌∷◌, ◌++◌, sym, refl, ap, ◌∙◌, subst, append_assoc, Option, Some, inl, arith}
use Rattle.atomic_table.specs.Table.{rest}
use Rattle.desk_lock.specs.declared.history.Entry.{Entry}
use Rattle.desk_lock.specs.declared.view.View.{View}
use Rattle.desk_lock.specs.declared.view.Stage.TheVariants.{Idle, Drawn, Served}
use Rattle.desk_lock.specs.History.{entry, NoneIn, calls_of, Legal, MayTurn}
use Rattle.desk_lock.specs.Views.{InHome, Sat, with_state, at_stage, seeing, Took, Turned}
use Rattle.desk_lock.proofs.Histories.{legal-snoc, calls_of-append, calls_of-none, calls_of-one}
use Rattle.desk_lock.proofs.Keeps.{call_of}

module _ {T C R : Type 0} (o : T) (taken : T → C → R → T → Type 0) (may : T → ℕ → List (Entry C R) → C → Type 0) where
  M : Type 0
  M = Sat T C R

  -- what holds of a pass whose ticket was served
  abbrev pub Came : ℕ → Option C → Sat T C R → Sat T C R → Type 0
  Came u call m n = (more : List (Entry C R)) × (x : T) × (n ≡ (seeing more (at_stage (Served u call) m.0), with_state call x [])) × NoneIn (InHome m.0) more × ((p : T) → m.0.opened ≡ Some p → Legal taken may p (m.0.seen ++ more) x)

  -- a ticket was drawn, and then it was served
  pub came : (m0 m1 m2 : Sat T C R) (t u : ℕ) (call served : Option C) → m1 ≡ (at_stage (Drawn t call) m0.0, []) → m1.0.stage ≡ Drawn u served → Took taken may u served m1 m2 → Came u call m0 m2
  came m0 m1 m2 t u call served drew at k =
      let same : served ≡ call = ap call_of (sym at) ∙ ap (λ (m : Sat T C R). call_of m.0.stage) drew in
      subst (λ (m : Sat T C R). Took taken may u call m m2) drew (subst (λ (c : Option C). Took taken may u c m1 m2) same k)

  abbrev pub holding : View T C R → T → Sat T C R
  holding v x = (v, (0, x) ∷ [])

  -- the state was changed in its place
  pub changed : (v : View T C R) (x y : T) (m : Sat T C R) → m ≡ holding v x → (let n : Sat T C R = (m.0, (0, y) ∷ rest m.1) in n) ≡ holding v y
  changed v x y m a = ap (λ (m : Sat T C R). let n : Sat T C R = (m.0, (0, y) ∷ rest m.1) in n) a

  pub found : (v : View T C R) (x y : T) (m2 : Sat T C R) → m2 ≡ holding v x → m2.1 ≡ (0, y) ∷ rest m2.1 → x ≡ y
  found v x y m2 a b = let d : m2.1 ≡ (0, x) ∷ [] = ap (λ (m : Sat T C R). m.1) a in let e : (0, x) ≡ (0, y) = cc in ap (λ (p : ℕ × T). p.1) e

  pub holds_slot : (v : View T C R) (x : T) (m2 : Sat T C R) → m2 ≡ holding v x → m2.1 ≡ (0, x) ∷ rest m2.1
  holds_slot v x m2 a = let d : m2.1 ≡ (0, x) ∷ [] = ap (λ (m : Sat T C R). m.1) a in d ∙ ap (λ (l : List (ℕ × T)). (0, x) ∷ rest l) (sym d)

  -- the caller's calls are those before, and then this one
  pub once : (v w : View T C R) (call : C) (reply : R) → v.low < v.high → Turned taken may o v call reply w → calls_of v.low w.seen ≡ calls_of v.low v.seen ++ entry v.low call reply ∷ []
  once v w call reply some_number t = let e : Entry C R = entry v.low call reply in let before : List (Entry C R) = calls_of v.low v.seen in
      ap (λ (u : View T C R). calls_of v.low u.seen) t.2 ∙ calls_of-append v.low v.seen (t.0 ++ e ∷ []) ∙ ap (λ (l : List (Entry C R)). before ++ l)
      (calls_of-append v.low t.0 (e ∷ []) ∙ (λ i. calls_of-none (InHome v) v.low t.0 (inl (omega arith, some_number)) t.3 i ++ calls_of-one v.low call reply i))

  module _ (lasts : (opened : T) (number : ℕ) (past more : List (Entry C R)) (call : C) → may opened number past call → may opened number (past ++ more) call) where
    pub may_turn : (v : View T C R) (more : List (Entry C R)) (x : T) (call : C) → Legal taken may o (v.seen ++ more) x → may o v.low v.seen call → MayTurn taken may x call
    may_turn v more x call legal may-now = (o, v.low, v.seen ++ more, legal, lasts o v.low v.seen more call may-now)

    pub grown : (v : View T C R) (more : List (Entry C R)) (x y : T) (call : C) (reply : R) → Legal taken may o (v.seen ++ more) x → may o v.low v.seen call → taken x call reply y
        → Legal taken may o ((v.seen ++ more) ++ entry v.low call reply ∷ []) y
    grown v more x y call reply legal may-now s = legal-snoc taken may o (v.seen ++ more) x v.low call reply y legal (lasts o v.low v.seen more call may-now) s

    pub turned : (v : View T C R) (more : List (Entry C R)) (x y : T) (call : C) (reply : R) (t : ℕ) (w : View T C R) → v.stage ≡ Idle → NoneIn (InHome v) more → Legal taken may o (v.seen ++ more) x
        → may o v.low v.seen call → taken x call reply y → w ≡ seeing (entry v.low call reply ∷ []) (at_stage Idle (seeing more (at_stage (Served t (Some call)) v))) → Turned taken may o v call reply w
    turned v more x y call reply t w idle none legal may-now s is =
        let e : Entry C R = entry v.low call reply in
        let same : w ≡ seeing (more ++ e ∷ []) v = is ∙ (λ i. record { stage = sym idle i; opened = v.opened; low = v.low; high = v.high; joined = v.joined; seen = append_assoc v.seen more (e ∷ []) i; heard = v.heard }) in (
          more,
          y,
          same,
          none,
          subst (λ (l : List (Entry C R)). Legal taken may o l y) (ap (λ (u : View T C R). u.seen) (sym is)) (grown v more x y call reply legal may-now s),
        )

    pub serves : (v : View T C R) (more : List (Entry C R)) (x x' y : T) (call : C) (reply : R) (t : ℕ) (m4 : Sat T C R) → x ≡ x' → m4 ≡ holding (seeing more (at_stage (Served t (Some call)) v)) y
        → Legal taken may o (v.seen ++ more) x → may o v.low v.seen call → taken x' call reply y
        → (u : ℕ) × (c : C) × (z : T) × (m4.0.stage ≡ Served u (Some c)) × (m4.1 ≡ (0, z) ∷ []) × Legal taken may o (m4.0.seen ++ entry m4.0.low c reply ∷ []) z
    serves v more x x' y call reply t m4 is now legal may-now s =
        subst (λ (p : Sat T C R). (u : ℕ) × (c : C) × (z : T) × (p.0.stage ≡ Served u (Some c)) × (p.1 ≡ (0, z) ∷ []) × Legal taken may o (p.0.seen ++ entry p.0.low c reply ∷ []) z) (sym now)
        (t, call, y, refl, refl, grown v more x y call reply legal may-now (subst (λ (z : T). taken z call reply y) (sym is) s))

    pub ends : (v : View T C R) (more : List (Entry C R)) (x x' y : T) (call : C) (reply : R) (t : ℕ) (m4 m5 : Sat T C R) → v.stage ≡ Idle → x ≡ x' → m4 ≡ holding (seeing more (at_stage (Served t (Some call)) v)) y
        → ((u : ℕ) (c : C) → m4.0.stage ≡ Served u (Some c) → m5 ≡ (seeing (entry m4.0.low c reply ∷ []) (at_stage Idle m4.0), [])) → NoneIn (InHome v) more → Legal taken may o (v.seen ++ more) x → may o v.low v.seen call → taken x' call reply y
        → (m5.1 ≡ []) × Turned taken may o v call reply m5.0
    ends v more x x' y call reply t m4 m5 idle is now done none legal may-now s =
        let done' : m5 ≡ (seeing (entry v.low call reply ∷ []) (at_stage Idle (seeing more (at_stage (Served t (Some call)) v))), []) =
        subst (λ (p : Sat T C R). m5 ≡ (seeing (entry p.0.low call reply ∷ []) (at_stage Idle p.0), [])) now (done t call (ap (λ (p : Sat T C R). p.0.stage) now)) in
        (ap (λ (m : Sat T C R). m.1) done', turned v more x y call reply t m5.0 idle none legal may-now (subst (λ (z : T). taken z call reply y) (sym is) s) (ap (λ (m : Sat T C R). m.0) done'))
