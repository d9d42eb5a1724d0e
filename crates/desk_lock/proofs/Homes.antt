-- Passes that are split and joined keep the rule.
use Rattle.std.proofs.Common.{◌≡◌, ◌≢◌, ◌⊎◌, ℕ, ◌<◌, ◌≤◌, List, [], ◌∷◌, length, set, sym, refl, ap, ◌∙◌, subst, inl, inr, ⊎_elim, arith, Some, None, length-set}
use mathlib.Core.Option.{none, some}
use lib.ListN.{get_elem?}
use lib.Seq.{set-get_or}
use Rattle.atomic_table.specs.Table.{State, Me, step, keeps, Allows, Splits, Joins}
use Rattle.atomic_table.proofs.Lists.{set_else}
use Rattle.desk_lock.specs.declared.history.Entry.{Entry}
use Rattle.desk_lock.specs.declared.view.View.{View}
use Rattle.desk_lock.specs.declared.view.Heard.{Heard}
use Rattle.desk_lock.specs.declared.view.Terms.{Terms}
use Rattle.desk_lock.specs.declared.view.Stage.TheVariants.{Idle}
use Rattle.desk_lock.specs.History.{GoesOn}
use Rattle.desk_lock.specs.Views.{Home, InHome, IsUnborne, longer, kept_of, given_of, hearing, gone, met, listened}
use Rattle.desk_lock.specs.Rule.{out, tickets, owned, Stands, Hears, Knows, Kept}
use Rattle.desk_lock.proofs.Histories.{none-narrower, none-nowhere, on_nowhere, joined_on}
use Rattle.desk_lock.proofs.Counts.{sum-set, sum-append, at_end, put_range, range_here, range_else, moved, moved_here, moved_else}
use Rattle.desk_lock.proofs.Keeps.{seats_stay}
use Rattle.desk_lock.proofs.Numbers.{among-append}

module _ {T C R : Type 0} (taken : T → C → R → T → Type 0) (may : T → ℕ → List (Entry C R) → C → Type 0) (key : Terms T) where
  abbrev V : Type 0
  V = View T C R

  abbrev St : Type 0
  St = State T V

  abbrev Rule : St → Type 0
  Rule = Kept taken may key

  pub splits : (id : ℕ) (v : V) (at : ℕ) → v.stage ≡ Idle → v.low < at → at < v.high → v.heard ≡ None → Splits Rule id v (kept_of at v) (given_of at v)
  splits id v at idle above below unheard s r here = let k = r.each_seat id v here in let left : V = kept_of at v in let right : V = given_of at v in
      let home_of : ℕ → ℕ = put_range r.home_of at v.high (length s.views) in let K = Knows key.opened.value key.passes r.history r.drawn r.away r.owner home_of in
      let vs : List V = set s.views id left in let inside = k.inside in record {
        history = r.history;
        state = r.state;
        drawn = r.drawn;
        away = r.away;
        owner = r.owner;
        home_of = home_of;
        wide = r.wide;
        deep = r.deep;
        legal = r.legal;
        numbered = r.numbered;
        ticket_is = r.ticket_is;
        serving_is = r.serving_is;
        counted = (let m = sum-set tickets s.views id v left here in let a = sum-append tickets vs (right ∷ []) in let c = r.counted in omega arith);
        few = (let m = sum-set owned s.views id v left here in let a = sum-append owned vs (right ∷ []) in let f = r.few in omega arith);
        away_out = r.away_out;
        at_home = r.at_home;
        each_seat = λ j u e. ⊎_elim
            (seats_stay K s.views id left
            record {
              opened_is = λ _. k.opened_is (omega arith);
              inside = omega arith;
              stands = k.stands;
              begins = (let b = k.begins in (b.0, b.1, none-narrower (InHome v) (InHome left) b.0 (λ n. ⊎_elim (λ i. (let lo = i.0 in let hi = i.1 in inl (omega arith, omega arith))) inr) b.2));
              homes = λ n. ⊎_elim (λ i. (let lo = i.0 in let hi = i.1 in range_else r.home_of at v.high (length s.views) n (λ a _. omega arith) ∙ k.homes n (inl (omega arith, omega arith))))
                  (λ i. range_else r.home_of at v.high (length s.views) n (λ a b. k.apart n i (omega arith) b) ∙ k.homes n (inr i));
              apart = λ n i a b. k.apart n i a (omega arith);
              unborne = none-narrower (IsUnborne v) (IsUnborne left) r.history (λ (n : ℕ) (i : (v.low < n) × (n < at)). (let under : n < at = i.1 in (i.0, omega arith))) k.unborne;
              armed = (let z : tickets v ≡ 0 = ap out idle in omega arith);
              heard = λ h is. absurd (cc);
            }
            (λ j u other e. let h = r.each_seat j u e in
            let far : (n : ℕ) → r.home_of n ≡ j → home_of n ≡ r.home_of n = λ n z. range_else r.home_of at v.high (length s.views) n (λ a b. other (sym z ∙ k.homes n (inl (omega arith, b)))) in record {
              opened_is = h.opened_is;
              inside = h.inside;
              stands = h.stands;
              begins = h.begins;
              homes = λ n i. far n (h.homes n i) ∙ h.homes n i;
              apart = h.apart;
              unborne = h.unborne;
              armed = h.armed;
              heard = λ g is. (let x = h.heard g is in record { begins = x.begins; homes = λ n i. far n (x.homes n i) ∙ x.homes n i; apart = x.apart });
            }) j u)
            (λ (t : (j ≡ length vs) × (right ≡ u)). subst (λ (x : ℕ × V). K x.0 x.1) (λ i. (sym (t.0 ∙ length-set s.views id left) i, t.1 i))
            (let made : K (length s.views) right = record {
              opened_is = λ _. k.opened_is (omega arith);
              inside = k.inside;
              stands = tt;
              begins = (let b = k.begins in (b.0, b.1, none-narrower (InHome v) (InHome right) b.0 (λ n. ⊎_elim (λ i. (let lo = i.0 in let hi = i.1 in inl (omega arith, hi))) (λ i. absurd i)) b.2));
              homes = λ n. ⊎_elim (λ i. range_here r.home_of at v.high (length s.views) n i.0 i.1) (λ i. absurd i);
              apart = λ n i _ _. i;
              unborne = none-narrower (IsUnborne v) (IsUnborne right) r.history (λ (n : ℕ) (i : (at < n) × (n < v.high)). (let over : at < n = i.0 in (omega arith, i.1))) k.unborne;
              armed = omega arith;
              heard = λ h is. absurd (cc);
            } in made))
            (at_end vs right u j e);
      }

  pub joins : (id : ℕ) (v : V) (other : ℕ) (w : V) → w.stage ≡ Idle → Joins Rule id v other w (hearing v w) gone
  joins id v other w idle s r here apart there = let k = r.each_seat id v here in let x : V = hearing v w in let vs : List V = set s.views id x in
      let there' : get_elem? s.views other ≡ some w = sym (set_else s.views id other x apart) ∙ there in let kw = r.each_seat other w there' in
      let home_of : ℕ → ℕ = moved r.home_of other id in let K = Knows key.opened.value key.passes r.history r.drawn r.away r.owner home_of in
      let stay : (n j : ℕ) → j ≢ other → r.home_of n ≡ j → home_of n ≡ j = λ n j ne e. moved_else r.home_of other id n (λ z. ne (sym e ∙ z)) ∙ e in
      let id-apart : id ≢ other = λ z. apart (sym z) in record {
        history = r.history;
        state = r.state;
        drawn = r.drawn;
        away = r.away;
        owner = r.owner;
        home_of = home_of;
        wide = r.wide;
        deep = r.deep;
        legal = r.legal;
        numbered = r.numbered;
        ticket_is = r.ticket_is;
        serving_is = r.serving_is;
        counted = (let m = sum-set tickets s.views id v x here in let m' = sum-set tickets vs other w gone there in let z : tickets w ≡ 0 = ap out idle in let c = r.counted in omega arith);
        few = (let m = sum-set owned s.views id v x here in let m' = sum-set owned vs other w gone there in let f = r.few in omega arith);
        away_out = r.away_out;
        at_home = r.at_home;
        each_seat = seats_stay K vs other gone
            record {
              opened_is = λ z. absurd (omega arith);
              inside = omega arith;
              stands = tt;
              begins = on_nowhere (Home 0 0 []) r.history (λ n. ⊎_elim (λ (i : (0 ≤ n) × (n < 0)). let a : n < 0 = i.1 in let no : ⊥ = omega arith in no) (λ i. i));
              homes = λ n. ⊎_elim (λ i. (let a = i.1 in absurd (omega arith))) (λ i. absurd i);
              apart = λ n i _ _. i;
              unborne = none-nowhere (IsUnborne (let nobody : V = gone in nobody)) r.history (λ (n : ℕ) (i : (0 < n) × (n < 0)). (let under : n < 0 = i.1 in let no : ⊥ = omega arith in no));
              armed = omega arith;
              heard = λ h is. absurd (cc);
            }
            (λ j u ne e. seats_stay (λ (j : ℕ) (u : V). j ≢ other → K j u) s.views id x
            (λ _. record {
              opened_is = k.opened_is;
              inside = k.inside;
              stands = k.stands;
              begins = k.begins;
              homes = λ n i. stay n id id-apart (k.homes n i);
              apart = k.apart;
              unborne = k.unborne;
              armed = k.armed;
              heard = λ h is. (let heard : Heard C R = record { low = w.low; high = w.high; joined = w.joined; seen = w.seen } in
                  let same : heard ≡ h = cc in subst (Hears r.history home_of id v.low v.high) same record {
                    begins = kw.begins;
                    homes = λ n i. moved_here r.home_of other id n (kw.homes n i);
                    apart = λ n i a b. apart (sym (kw.homes n i) ∙ k.homes n (inl (a, b)));
                  });
            })
            (λ i u' _ e' ne'. let h = r.each_seat i u' e' in record {
              opened_is = h.opened_is;
              inside = h.inside;
              stands = h.stands;
              begins = h.begins;
              homes = λ n p. stay n i ne' (h.homes n p);
              apart = h.apart;
              unborne = h.unborne;
              armed = h.armed;
              heard = λ g is. (let y = h.heard g is in record { begins = y.begins; homes = λ n p. stay n i ne' (y.homes n p); apart = y.apart });
            }) j u e ne);
      }

  pub listens : (slots id : ℕ) (me : Me T V) (h : Heard C R) → me.0.stage ≡ Idle → me.0.heard ≡ Some h → Allows Rule slots id me 0 (λ n. n) (listened (step slots 0 0 0 none) me)
  listens slots id me h idle is s r _ here _ = let v : V = me.0 in let k = r.each_seat id v here in let x = k.heard h is in let w : V = met v h in
      let apart-home : (n : ℕ) → InHome w n → InHome v n ⊎ Home h.low h.high h.joined n = λ n. ⊎_elim (λ i. inl (inl i)) (λ i. ⊎_elim (λ a. inl (inr a)) inr (among-append n v.joined ((h.low, h.high) ∷ h.joined) i)) in
      let on = joined_on (InHome v) (Home h.low h.high h.joined) (InHome w) v.seen h.seen r.history apart-home k.begins x.begins in (
        w,
        keeps,
        tt,
        subst (λ (ws : List ℕ). Rule record { words = ws; homes = s.homes; views = set s.views id w }) (sym (set-get_or s.words 0 0)) record {
          history = r.history;
          state = r.state;
          drawn = r.drawn;
          away = r.away;
          owner = r.owner;
          home_of = r.home_of;
          wide = r.wide;
          deep = r.deep;
          legal = r.legal;
          numbered = r.numbered;
          ticket_is = r.ticket_is;
          serving_is = r.serving_is;
          counted = (let m = sum-set tickets s.views id v w here in let c = r.counted in omega arith);
          few = (let m = sum-set owned s.views id v w here in let f = r.few in omega arith);
          away_out = r.away_out;
          at_home = r.at_home;
          each_seat = seats_stay (Knows key.opened.value key.passes r.history r.drawn r.away r.owner r.home_of) s.views id w
              record {
                opened_is = k.opened_is;
                inside = k.inside;
                stands = subst (Stands r.history r.drawn r.away r.owner id (longer v.seen h.seen)) (sym idle) tt;
                begins = on.2;
                homes = λ n i. ⊎_elim (k.homes n) (x.homes n) (apart-home n i);
                unborne = k.unborne;
                apart = λ n i a b. ⊎_elim (λ p. k.apart n p a b) (λ p. x.apart n p a b) (among-append n v.joined ((h.low, h.high) ∷ h.joined) i);
                armed = k.armed;
                heard = λ g no. absurd (cc);
              }
              (λ j u _ e. r.each_seat j u e);
        },
        λ g is'. (let same : h ≡ g = cc in subst (λ (z : Heard C R). (let n : Me T V = (w, me.1) in let m : Me T V = (met v z, me.1) in n ≡ m)
            × GoesOn (InHome v) v.seen (longer v.seen z.seen) × GoesOn (Home z.low z.high z.joined) z.seen (longer v.seen z.seen)) same (refl, on.0, on.1)),
      )
