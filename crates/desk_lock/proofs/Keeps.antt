-- Each step keeps the rule.
use Rattle.std.proofs.Common.{◌≡◌, ◌≢◌, ℕ, zero, suc, Bool, true, false, inl, ◌+◌, ◌%◌, ◌^◌, ◌<◌, ◌≤◌, List, [], ◌∷◌, ◌++◌, length, get_or, set, sym, refl, ap, ◌∙◌, subst, ⊎_elim, arith, Option, Some, None, length-set, length-append, get_or-set_other, get_or-set_same}
use Rattle.std.proofs.lemmas.List.{append-nil}
use mathlib.Core.Logic.{dite}
use mathlib.Core.Option.{none, some, some-ne-none}
use native.Mathlib.Decide.{ℕ_discrete}
use lib.ListN.{get_elem?}
use lib.Seq.{set-get_or}
use Rattle.atomic_table.specs.Table.{State, Me, Act, step, keeps, takes, gives, carried_after, homes_after, Valid, stepped, Allows, opening}
use Rattle.atomic_table.proofs.Lists.{at_set, set_here}
use Rattle.desk_lock.specs.declared.history.Entry.{Entry}
use Rattle.desk_lock.specs.declared.view.View.{View}
use Rattle.desk_lock.specs.declared.view.Terms.{Terms}
use Rattle.desk_lock.specs.declared.view.Stage.{Stage}
use Rattle.desk_lock.specs.declared.view.Stage.TheVariants.{Idle, Drawn, Served}
use Rattle.desk_lock.specs.History.{entry, Legal}
use Rattle.desk_lock.specs.Views.{Home, InHome, IsUnborne, with_state, fresh, at_stage, seeing, drew, Took, reached, left}
use Rattle.desk_lock.specs.Rule.{out, takes_state, tickets, owned, Stands, Knows, Kept}
use Rattle.desk_lock.proofs.Histories.{none-snoc, snoc_on}
use Rattle.desk_lock.proofs.Counts.{sum-set, sum-more, put, put_here, put_else, next, first_out}

module _ {C : Type 0} where
  abbrev ticket_or : ℕ → Stage C → ℕ
  ticket_or d Idle = d
  ticket_or d (Drawn t call) = t
  ticket_or d (Served t call) = t

  abbrev pub call_of : Stage C → Option C
  call_of Idle = None
  call_of (Drawn t call) = call
  call_of (Served t call) = call

-- where the first ticket is not out yet, the state is at home
at_home_if : (b : Bool) (first drawn : ℕ) → (b ≡ true → first < drawn) → drawn ≡ first → b ≡ false
at_home_if true first drawn h e = (let lt = h refl in absurd (omega arith))
at_home_if false first drawn h e = refl

module _ {T C : Type 0} where
  -- a pass that makes a call takes the state
  abbrev act_of : Option C → T → Act T
  act_of None x = keeps
  act_of (Some call) x = takes 0 x

  act_valid : (call : Option C) (x : T) (hs : List (mathlib.Core.Option.Option T)) (cs : List (ℕ × T)) → get_elem? hs 0 ≡ some (some x) → Valid hs cs (act_of call x)
  act_valid None x hs cs at = tt
  act_valid (Some call) x hs cs at = at

  act_carries : (call : Option C) (x : T) (cs : List (ℕ × T)) → carried_after cs (act_of call x) ≡ with_state call x cs
  act_carries None x cs = refl
  act_carries (Some call) x cs = refl

  act_deep : (call : Option C) (x : T) (hs : List (mathlib.Core.Option.Option T)) (cs : List (ℕ × T)) → length (homes_after hs cs (act_of call x)) ≡ length hs
  act_deep None x hs cs = refl
  act_deep (Some call) x hs cs = length-set hs 0 none

  act_home : (call : Option C) (x : T) (hs : List (mathlib.Core.Option.Option T)) (cs : List (ℕ × T)) → get_elem? hs 0 ≡ some (some x) → takes_state call ≡ false → get_elem? (homes_after hs cs (act_of call x)) 0 ≡ some (some x)
  act_home None x hs cs at is = at
  act_home (Some call) x hs cs at is = absurd (cc)

module _ {W : Type 0} where
  pub seats_stay : (K : ℕ → W → Type 0) (vs : List W) (me : ℕ) (w : W) → K me w → ((j : ℕ) (v : W) → j ≢ me → get_elem? vs j ≡ some v → K j v)
      → (j : ℕ) (v : W) → get_elem? (set vs me w) j ≡ some v → K j v
  seats_stay K vs me w mine others j v e = ⊎_elim (λ (t : (j ≡ me) × (w ≡ v)). subst (λ (x : ℕ × W). K x.0 x.1) (λ i. (sym t.0 i, t.1 i)) mine)
      (λ (t : (j ≢ me) × (get_elem? vs j ≡ some v)). others j v t.0 t.1) (at_set vs me j w v e)

module _ {T C R : Type 0} (taken : T → C → R → T → Type 0) (may : T → ℕ → List (Entry C R) → C → Type 0) (key : Terms T) where
  abbrev St : Type 0
  St = State T (View T C R)

  abbrev V : Type 0
  V = View T C R

  abbrev M : Type 0
  M = Me T (View T C R)

  abbrev Rule : St → Type 0
  Rule = Kept taken may key

  -- no more tickets are out than there are passes
  few_out : (s : St) (r : Rule s) → r.drawn ≤ length r.history + 64
  few_out s r = let c = r.counted in let f = r.few in let m = sum-more owned tickets s.views (λ j v e. (r.each_seat j v e).armed) in omega arith

  -- a step that changes neither a word nor a seat's knowledge
  unmoved : (s : St) (r : Rule s) (i id : ℕ) (cs : List (ℕ × T)) (v : V) → get_elem? s.views id ≡ some v → Rule (stepped s i (get_or s.words i 0) id cs v keeps)
  unmoved s r i id cs v at = subst (λ (ws : List ℕ). Rule record { words = ws; homes = s.homes; views = set s.views id v }) (sym (set-get_or s.words i 0)) record {
    history = r.history;
    state = r.state;
    drawn = r.drawn;
    away = r.away;
    owner = r.owner;
    home_of = r.home_of;
    wide = r.wide;
    deep = r.deep;
    legal = r.legal;
    numbered = r.numbered;
    ticket_is = r.ticket_is;
    serving_is = r.serving_is;
    counted = (let m = sum-set tickets s.views id v v at in let c = r.counted in omega arith);
    few = (let m = sum-set owned s.views id v v at in let f = r.few in omega arith);
    away_out = r.away_out;
    at_home = r.at_home;
    each_seat = seats_stay (Knows key.opened.value key.passes r.history r.drawn r.away r.owner r.home_of) s.views id v (r.each_seat id v at) (λ j u _ e. r.each_seat j u e);
  }

  stands_drawn : (history : List (Entry C R)) (drawn : ℕ) (away : Bool) (owner : ℕ → ℕ) (id j : ℕ) (seen : List (Entry C R)) (g : Stage C)
      → Stands history drawn away owner j seen g → Stands history (drawn + 1) away (put owner drawn id) j seen g
  stands_drawn history drawn away owner id j seen Idle h = tt
  stands_drawn history drawn away owner id j seen (Drawn t call) h = let b = h.1 in (h.0, omega arith, put_else owner drawn id t (λ e. omega arith) ∙ h.2, h.3)
  stands_drawn history drawn away owner id j seen (Served t call) h = let b = h.1 in (h.0, omega arith, put_else owner drawn id t (λ e. omega arith) ∙ h.2, h.3, h.4)

  pub draws : (slots id : ℕ) (me : M) (call : Option C) → me.0.stage ≡ Idle → me.0.low < me.0.high
      → Allows Rule slots id me 0 (λ n. (n + 1) % 2 ^ 64) (drew call (step slots 0 1 0 none) me)
  draws slots id me call idle some_number s r _ at _ = let w : V = at_stage (Drawn r.drawn call) me.0 in let k = r.each_seat id me.0 at in let x : ℕ = (get_or s.words 0 0 + 1) % 2 ^ 64 in
      let K = Knows key.opened.value key.passes r.history (r.drawn + 1) r.away (put r.owner r.drawn id) r.home_of in let wide = r.wide in let c = r.counted in (
        w,
        keeps,
        tt,
        record {
          history = r.history;
          state = r.state;
          drawn = r.drawn + 1;
          away = r.away;
          owner = put r.owner r.drawn id;
          home_of = r.home_of;
          wide = length-set s.words 0 x ∙ r.wide;
          deep = r.deep;
          legal = r.legal;
          numbered = r.numbered;
          ticket_is = get_or-set_same s.words 0 x 0 (omega arith) ∙ next (get_or s.words 0 0) r.drawn r.ticket_is;
          serving_is = get_or-set_other s.words 0 1 x 0 (λ e. omega arith) ∙ r.serving_is;
          counted = (let m = sum-set tickets s.views id me.0 w at in let z : tickets me.0 ≡ 0 = ap out idle in omega arith);
          few = (let m = sum-set owned s.views id me.0 w at in let f = r.few in omega arith);
          away_out = λ b. (let o = r.away_out b in omega arith);
          at_home = r.at_home;
          each_seat = seats_stay K s.views id w
              record {
                opened_is = k.opened_is;
                inside = k.inside;
                stands = (omega arith, omega arith, put_here r.owner r.drawn id, λ e. at_home_if r.away (length r.history) r.drawn r.away_out e);
                begins = k.begins;
                homes = k.homes;
                apart = k.apart;
                unborne = k.unborne;
                armed = omega arith;
                heard = k.heard;
              }
              (λ j u other e. let h = r.each_seat j u e in record {
                opened_is = h.opened_is;
                inside = h.inside;
                stands = stands_drawn r.history r.drawn r.away r.owner id j u.seen u.stage h.stands;
                begins = h.begins;
                homes = h.homes;
                apart = h.apart;
                unborne = h.unborne;
                armed = h.armed;
                heard = h.heard;
              });
        },
        (r.drawn, refl, r.ticket_is),
      )

  stands_taken : (history : List (Entry C R)) (drawn : ℕ) (away : Bool) (owner : ℕ → ℕ) (id j : ℕ) (seen : List (Entry C R)) (g : Stage C) → owner (length history) ≡ id → j ≢ id
      → Stands history drawn false owner j seen g → Stands history drawn away owner j seen g
  stands_taken history drawn away owner id j seen Idle mine other h = tt
  stands_taken history drawn away owner id j seen (Drawn t call) mine other h = (h.0, h.1, h.2, λ e. absurd (other (sym h.2 ∙ (ap owner e ∙ mine))))
  stands_taken history drawn away owner id j seen (Served t call) mine other h = absurd (other (sym h.2 ∙ (ap owner (sym h.0) ∙ mine)))

  pub reaches : (slots id : ℕ) (me : M) (t : ℕ) (call : Option C) → me.0.stage ≡ Drawn t call → Allows Rule slots id me 1 (λ n. n) (reached taken may (step slots 1 0 0 none) me)
  reaches slots id me t call is s r _ at _ = let k = r.each_seat id me.0 at in
      let st = subst (Stands r.history r.drawn r.away r.owner id me.0.seen) is k.stands in
      let found : ℕ = get_or s.words 1 0 in
      let same : (u : ℕ) (b : Option C) → me.0.stage ≡ Drawn u b → t ≡ u = λ u b e. ap (ticket_or 0) (sym is ∙ e) in
      let same_call : (u : ℕ) (b : Option C) → me.0.stage ≡ Drawn u b → call ≡ b = λ u b e. ap call_of (sym is ∙ e) in
      dite (ℕ_discrete found (t % 18446744073709551616))
      (λ hit. let first : length r.history ≡ t = first_out (length r.history) t r.drawn st.0 st.1 (few_out s r) (sym r.serving_is ∙ hit) in
      let more : List (Entry C R) = k.begins.0 in let free : r.away ≡ false = st.3 (sym first) in let home = r.at_home free in
      let whole : r.history ≡ me.0.seen ++ more = k.begins.1 in
      let w : V = seeing more (at_stage (Served t call) me.0) in let act : Act T = act_of call r.state in
      let mine : r.owner (length r.history) ≡ id = ap r.owner first ∙ st.2 in
      let armed = k.armed in let one : tickets me.0 ≡ 1 = ap out is in let from = k.opened_is (omega arith) in
      let legal : (o : T) → me.0.opened ≡ Some o → Legal taken may o (me.0.seen ++ more) r.state = λ o from'. (let same-o : key.opened.value ≡ o = cc in subst (λ (x : T × List (Entry C R)). Legal taken may x.0 x.1 r.state) (λ i. (same-o i, whole i)) r.legal) in
      let b = st.1 in (
        w,
        act,
        act_valid call r.state s.homes me.1 home,
        subst (λ (ws : List ℕ). Rule record { words = ws; homes = homes_after s.homes me.1 act; views = set s.views id w }) (sym (set-get_or s.words 1 0)) record {
          history = r.history;
          state = r.state;
          drawn = r.drawn;
          away = takes_state call;
          owner = r.owner;
          home_of = r.home_of;
          wide = r.wide;
          deep = act_deep call r.state s.homes me.1 ∙ r.deep;
          legal = r.legal;
          numbered = r.numbered;
          ticket_is = r.ticket_is;
          serving_is = r.serving_is;
          counted = (let m = sum-set tickets s.views id me.0 w at in let z : tickets me.0 ≡ 1 = ap out is in let c = r.counted in omega arith);
          few = (let m = sum-set owned s.views id me.0 w at in let f = r.few in omega arith);
          away_out = λ _. omega arith;
          at_home = act_home call r.state s.homes me.1 home;
          each_seat = seats_stay (Knows key.opened.value key.passes r.history r.drawn (takes_state call) r.owner r.home_of) s.views id w
              record {
                opened_is = k.opened_is;
                inside = k.inside;
                stands = (first, st.1, st.2, refl, sym whole);
                begins = ([], sym (append-nil (me.0.seen ++ more) ∙ sym whole), tt);
                homes = k.homes;
                apart = k.apart;
                unborne = k.unborne;
                armed = (let a = k.armed in let z : tickets me.0 ≡ 1 = ap out is in omega arith);
                heard = k.heard;
              }
              (λ j u other e. let h = r.each_seat j u e in record {
                opened_is = h.opened_is;
                inside = h.inside;
                stands = stands_taken r.history r.drawn (takes_state call) r.owner id j u.seen u.stage mine other (subst (λ (z : Bool). Stands r.history r.drawn z r.owner j u.seen u.stage) free h.stands);
                begins = h.begins;
                homes = h.homes;
                apart = h.apart;
                unborne = h.unborne;
                armed = h.armed;
                heard = h.heard;
              });
        },
        λ u b e. (
          (λ _. subst (λ (z : ℕ × Option C). let n : M = (w, carried_after me.1 act) in Took taken may z.0 z.1 me n) (λ i. (same u b e i, same_call u b e i))
              (more, r.state, ap (λ (l : List (ℕ × T)). let n : M = (w, l) in n) (act_carries call r.state me.1), k.begins.2, legal)),
          λ miss. absurd (miss (hit ∙ ap (λ (z : ℕ). z % 18446744073709551616) (same u b e))),
        ),
      ))
      (λ miss. (me.0, keeps, tt, unmoved s r 1 id me.1 me.0 at, λ u b e. ((λ hit. absurd (miss (hit ∙ ap (λ (z : ℕ). z % 18446744073709551616) (sym (same u b e))))), λ _. refl)))

  stands_left : (history : List (Entry C R)) (e : Entry C R) (drawn : ℕ) (away : Bool) (owner : ℕ → ℕ) (id j : ℕ) (seen : List (Entry C R)) (g : Stage C) → owner (length history) ≡ id → j ≢ id
      → Stands history drawn away owner j seen g → Stands (history ++ e ∷ []) drawn false owner j seen g
  stands_left history e drawn away owner id j seen Idle mine other h = tt
  stands_left history e drawn away owner id j seen (Drawn t call) mine other h = let a = h.0 in let n : t ≢ length history = λ z. other (sym h.2 ∙ (ap owner z ∙ mine)) in
      (omega (arith, length-append history (e ∷ [])), h.1, h.2, λ _. refl)
  stands_left history e drawn away owner id j seen (Served t call) mine other h = absurd (other (sym h.2 ∙ (ap owner (sym h.0) ∙ mine)))

  leaves_one : (slots id : ℕ) (v : V) (t : ℕ) (call : C) (reply : R) (y : T) → v.stage ≡ Served t (Some call) → Legal taken may key.opened.value (v.seen ++ entry v.low call reply ∷ []) y
      → Allows Rule slots id (v, (0, y) ∷ []) 1 (λ n. (n + 1) % 2 ^ 64) (left (Some reply) (step slots 1 1 0 none) (v, (0, y) ∷ []))
  leaves_one slots id v t call reply y is legal s r _ at _ = let k = r.each_seat id v at in let e : Entry C R = entry v.low call reply in
      let st = subst (Stands r.history r.drawn r.away r.owner id v.seen) is k.stands in
      let w : V = seeing (e ∷ []) (at_stage Idle v) in let x : ℕ = (get_or s.words 1 0 + 1) % 2 ^ 64 in let first : length r.history ≡ t = st.0 in let whole : v.seen ≡ r.history = st.4 in
      let longer : List (Entry C R) = r.history ++ e ∷ [] in let count : length longer ≡ length r.history + 1 = length-append r.history (e ∷ []) in
      let mine : r.owner (length r.history) ≡ id = ap r.owner first ∙ st.2 in let one : tickets v ≡ 1 = ap out is in let armed = k.armed in let inside = k.inside in let wide = r.wide in let deep = r.deep in
      let home : r.home_of e.number ≡ id = k.homes e.number (inl (omega arith, omega arith)) in (
        w,
        gives,
        tt,
        record {
          history = longer;
          state = y;
          drawn = r.drawn;
          away = false;
          owner = r.owner;
          home_of = r.home_of;
          wide = length-set s.words 1 x ∙ r.wide;
          deep = length-set s.homes 0 (some y) ∙ r.deep;
          legal = subst (λ (z : List (Entry C R)). Legal taken may key.opened.value z y) (λ i. whole i ++ e ∷ []) legal;
          numbered = none-snoc (λ n. key.passes ≤ n) r.history e r.numbered (λ z. omega arith);
          ticket_is = get_or-set_other s.words 1 0 x 0 (λ z. omega arith) ∙ r.ticket_is;
          serving_is = get_or-set_same s.words 1 x 0 (omega arith) ∙ (next (get_or s.words 1 0) (length r.history) r.serving_is ∙ ap (λ (n : ℕ). n % 18446744073709551616) (sym count));
          counted = (let m = sum-set tickets s.views id v w at in let c = r.counted in omega arith);
          few = (let m = sum-set owned s.views id v w at in let f = r.few in omega arith);
          away_out = λ b. absurd (cc);
          at_home = λ _. set_here s.homes 0 (some y) (omega arith);
          each_seat = seats_stay (Knows key.opened.value key.passes longer r.drawn false r.owner r.home_of) s.views id w
              record {
                opened_is = k.opened_is;
                inside = k.inside;
                stands = tt;
                begins = ([], ap (λ (l : List (Entry C R)). l ++ e ∷ []) (sym whole) ∙ sym (append-nil (v.seen ++ e ∷ [])), tt);
                homes = k.homes;
                apart = k.apart;
                unborne = none-snoc (IsUnborne v) r.history e k.unborne (λ z. (let lt = z.0 in omega arith));
                armed = omega arith;
                heard = λ h is'. (let x = k.heard h is' in record {
                  begins = snoc_on (Home h.low h.high h.joined) h.seen r.history e x.begins (λ z. x.apart e.number z (omega arith) (omega arith));
                  homes = x.homes;
                  apart = x.apart;
                });
              }
              (λ j u other at'. let h = r.each_seat j u at' in record {
                opened_is = h.opened_is;
                inside = h.inside;
                stands = stands_left r.history e r.drawn r.away r.owner id j u.seen u.stage mine other h.stands;
                begins = snoc_on (InHome u) u.seen r.history e h.begins (λ z. other (sym (h.homes e.number z) ∙ home));
                homes = h.homes;
                apart = h.apart;
                unborne = none-snoc (IsUnborne u) r.history e h.unborne (λ z. other (sym (h.homes e.number (inl ((let lt = z.0 in omega arith), z.1))) ∙ home));
                armed = h.armed;
                heard = λ g is'. (let x = h.heard g is' in record {
                  begins = snoc_on (Home g.low g.high g.joined) g.seen r.history e x.begins (λ z. other (sym (x.homes e.number z) ∙ home));
                  homes = x.homes;
                  apart = x.apart;
                });
              });
        },
        λ u c' r' e₁ e₂. (let c-is : call ≡ c' = cc in let r-is : reply ≡ r' = cc in
            λ i. (seeing (entry v.low (c-is i) (r-is i) ∷ []) (at_stage Idle v), [])),
      )

  pub leaves : (slots id : ℕ) (me : M) (t : ℕ) (call : C) (reply : R) (y : T) (said : Option R) → me.0.stage ≡ Served t (Some call) → me.1 ≡ (0, y) ∷ [] → said ≡ Some reply
      → Legal taken may key.opened.value (me.0.seen ++ entry me.0.low call reply ∷ []) y → Allows Rule slots id me 1 (λ n. (n + 1) % 2 ^ 64) (left said (step slots 1 1 0 none) me)
  leaves slots id me t call reply y said is has told legal =
      subst (λ (z : List (ℕ × T) × Option R). let m : M = (me.0, z.0) in Allows Rule slots id m 1 (λ n. (n + 1) % 2 ^ 64) (left z.1 (step slots 1 1 0 none) m)) (λ i. (sym has i, sym told i))
      (leaves_one slots id me.0 t call reply y is legal)

  pub opens : (state : T) → key.opened.value ≡ state → 0 < key.passes → key.passes ≤ 64 → Rule (opening (0 ∷ 0 ∷ []) (state ∷ []) (fresh (Some key.opened.value) 0 key.passes []))
  opens state is some_pass few = record {
    history = [];
    state = state;
    drawn = 0;
    away = false;
    owner = λ _. 0;
    home_of = λ _. 0;
    wide = refl;
    deep = refl;
    legal = is;
    numbered = tt;
    ticket_is = refl;
    serving_is = refl;
    counted = omega arith;
    few = omega arith;
    away_out = λ b. absurd (cc);
    at_home = λ _. refl;
    each_seat = alone;
  }
    where
      alone : (j : ℕ) (v : V) → get_elem? (fresh (Some key.opened.value) 0 key.passes [] ∷ []) j ≡ some v → Knows key.opened.value key.passes [] 0 false (λ _. 0) (λ _. 0) j v
      alone zero v e = subst (Knows key.opened.value key.passes [] 0 false (λ _. 0) (λ _. 0) 0) (mathlib.Core.Option.some-injective _ _ e) record {
        opened_is = λ _. refl;
        inside = omega arith;
        stands = tt;
        begins = ([], refl, tt);
        homes = λ n _. refl;
        apart = λ n h. absurd h;
        unborne = tt;
        armed = omega arith;
        heard = λ h is'. absurd (cc);
      }
      alone (suc j) v e = absurd (some-ne-none v (sym e))
