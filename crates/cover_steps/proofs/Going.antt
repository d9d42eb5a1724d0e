-- Lists of steps that go on: their rows, their witnesses, and what stays finished.
use Rattle.std.proofs.Common.{inl, inr, ◌≡◌, ◌≢◌, ◌⊎◌, ℕ, ◌<◌, ◌≤◌, max, eqb, Bool, true, false, cond, ◌&&◌, refl, sym, ap, ◌∙◌, subst, arith, List, [], ◌∷◌, ◌++◌, length, map, append_assoc, Some, None}
use Rattle.std.specs.List.{All, Contains, find}
use Rattle.std.proofs.lemmas.Bool.{true≢false, eq-eqb, and_parts, and_from, not-true, ltb-false, le-ltb}
use Rattle.std.proofs.lemmas.List.{append-nil}
use Rattle.col_set.specs.declared.target.Target.{Target}
use Rattle.col_set.specs.Target.{IsColumnTarget}
use Rattle.col_set.specs.Lists.{Listed, Listed-append_left, Listed-append_right, Listed-filter, Listed-map_which, list_any_at}
use Rattle.col_set.proofs.Places.{Contains-listed, Listed-contained}
use Rattle.rel_base.specs.declared.batch.Op.{Op}
use Rattle.rel_base.specs.JobParts.{JobParts}
use Rattle.rel_base.specs.RowState.{RowState, IsRowState, width, next}
use Rattle.rel_base.specs.Validity.{agree_of}
use Rattle.rel_base.specs.Batches.{is_live, IsAsWide}
use Rattle.rel_base.specs.Laws.{Follows}
use Rattle.rel_base.proofs.States.{All-listed, All-from, live_numbered}
use Rattle.rel_base.proofs.Changes.{after-follows, Follows-refl, Follows-trans}
use Rattle.negative_cover.specs.declared.negative_cover.Witness.{Witness}
use Rattle.candidate_cover.specs.declared.cand.Cand.{Cand}
use Rattle.candidate_cover.specs.Cands.{cands_of, with_list}
use Rattle.cover_steps.specs.declared.step.Call.{Call}
use Rattle.cover_steps.specs.declared.step.Call.TheVariants.{Draw, Refute, Mark, Release, Apply, Settle}
use Rattle.cover_steps.specs.declared.step.Reply.{Reply}
use Rattle.cover_steps.specs.declared.step.Reply.TheVariants.{Job, Busy, Settled, Gone, Known, Booked, Marked, Dropped, Released, Applied, Refused, Ready, NotYet, NoMemory}
use Rattle.cover_steps.specs.Core.{Core, cands, entries, is_unfinished, first_unfinished, first_drawable, refutes_some, with_cands, witness_of}
use Rattle.cover_steps.specs.Steps.{IsDrawing, IsRefuting, IsMarking, IsReleasing, IsApplying, IsSettling, Step}
use Rattle.cover_steps.specs.Sound.{IsWitness, Sound, Fits, SoundWith}
use Rattle.cover_steps.specs.Histories.{Entry, May, Runs, drawn, all_drawn, rows_after, is_accepted, IsQuiet}
use Rattle.cover_steps.specs.Laws.{RunsGoOn, RowsAreAfter, Stands, booking, WitnessesStay}
use Rattle.cover_steps.proofs.Kept.{cands_of-with_list, target_cases}
use Rattle.cover_steps.proofs.Found.{IsEntry-listed, drawable-entry, drawable-test, all_finished, refutes_some-which}
use Rattle.cover_steps.proofs.Keeping.{live-Contains, cand-marked, step_keeps}
use Rattle.cover_steps.proofs.Counting.{step_rows}

-- ---- one list after another
runs-both : (jobs : List JobParts) (s mid new : Core) (before later : List Entry) → Runs jobs s before mid → Runs (jobs ++ all_drawn before) mid later new → Runs jobs s (before ++ later) new
runs-both jobs s mid new [] later e r = subst (λ (m : Core). Runs jobs m later new) e (subst (λ (js : List JobParts). Runs js mid later new) (append-nil jobs) r)
runs-both jobs s mid new (e ∷ es) later r q =
    (r.0, r.1, r.2, runs-both (jobs ++ drawn e.reply) r.0 mid new es later r.3 (subst (λ (js : List JobParts). Runs js mid later new) (sym (append_assoc jobs (drawn e.reply) (all_drawn es))) q))

pub runs-parted : (jobs : List JobParts) (s new : Core) (before later : List Entry) → Runs jobs s (before ++ later) new → (mid : Core) × Runs jobs s before mid × Runs (jobs ++ all_drawn before) mid later new
runs-parted jobs s new [] later r = (s, refl, subst (λ (js : List JobParts). Runs js s later new) (sym (append-nil jobs)) r)
runs-parted jobs s new (e ∷ es) later r =
    let w = runs-parted (jobs ++ drawn e.reply) r.0 new es later r.3 in
    (w.0, (r.0, r.1, r.2, w.1), subst (λ (js : List JobParts). Runs js w.0 later new) (append_assoc jobs (drawn e.reply) (all_drawn es)) w.2)

pub runs-go_on : (jobs : List JobParts) (s new : Core) → RunsGoOn jobs s new
runs-go_on jobs s new = record {
  both = λ mid before later r q. runs-both jobs s mid new before later r q;
  parted = λ before later r. runs-parted jobs s new before later r;
  one_more = λ mid before e r may step. runs-both jobs s mid new before (e ∷ []) r (new, may, step, refl);
}

-- ---- rows
applying_follows : (s new : Core) (ops : List Op) (reply : Reply) → IsRowState s.rows → All (IsAsWide (width s.rows)) ops → IsApplying s ops reply new → Follows s.rows new.rows
applying_follows s new ops (Applied inserted deleted) is wide d = subst (λ (m : Core). Follows s.rows m.rows) (sym d.state) (after-follows 1 s.rows d.rows ops is wide d.after).1
applying_follows s new ops (Refused at why) is wide d = subst (λ (m : Core). Follows s.rows m.rows) (sym d.1) (Follows-refl s.rows)
applying_follows s new ops NoMemory is wide d = subst (λ (m : Core). Follows s.rows m.rows) (sym d) (Follows-refl s.rows)
applying_follows s new ops _ is wide d = absurd d

same_follows : (r q : RowState) → q ≡ r → Follows r q
same_follows r q e = subst (Follows r) (sym e) (Follows-refl r)

pub step_follows : (jobs : List JobParts) (s new : Core) (call : Call) (reply : Reply) → IsRowState s.rows → May jobs s.rows call → Step s call reply new → Follows s.rows new.rows
step_follows jobs s new (Apply ops) reply is may d = applying_follows s new ops reply is may d
step_follows jobs s new Draw reply is may d = same_follows s.rows new.rows (step_rows s new Draw reply d)
step_follows jobs s new (Refute i j) reply is may d = same_follows s.rows new.rows (step_rows s new (Refute i j) reply d)
step_follows jobs s new (Mark job) reply is may d = same_follows s.rows new.rows (step_rows s new (Mark job) reply d)
step_follows jobs s new (Release job) reply is may d = same_follows s.rows new.rows (step_rows s new (Release job) reply d)
step_follows jobs s new Settle reply is may d = same_follows s.rows new.rows (step_rows s new Settle reply d)

pub runs_follow : (jobs : List JobParts) (s new : Core) (es : List Entry) → SoundWith s jobs → Runs jobs s es new → Follows s.rows new.rows
runs_follow jobs s new [] h e = same_follows s.rows new.rows (ap (λ (m : Core). m.rows) e)
runs_follow jobs s new (e ∷ es) h r =
    Follows-trans s.rows r.0.rows new.rows (step_follows jobs s r.0 e.call e.reply h.sound.rows r.1 r.2)
    (runs_follow (jobs ++ drawn e.reply) r.0 new es (step_keeps jobs s r.0 e.call e.reply h r.1 r.2) r.3)

pub runs_rows : (jobs : List JobParts) (s new : Core) (es : List Entry) → Runs jobs s es new → new.rows ≡ rows_after s.rows es
runs_rows jobs s new [] e = ap (λ (m : Core). m.rows) e
runs_rows jobs s new (e ∷ es) r = runs_rows (jobs ++ drawn e.reply) r.0 new es r.3 ∙ ap (λ (q : RowState). rows_after q es) (step_rows s r.0 e.call e.reply r.2)

pub rows_are_after : (jobs : List JobParts) (s new : Core) (es : List Entry) → SoundWith s jobs → Runs jobs s es new → RowsAreAfter s new es
rows_are_after jobs s new es h r =
    let f = runs_follow jobs s new es h r in
    record { rows = runs_rows jobs s new es r; follows = f; width = ap length f.names }

-- ---- what stays finished
none_from : {X : Type 0} (p : X → Bool) (xs : List X) → ((x : X) → Listed x xs → p x ≡ false) → find p xs ≡ None
none_from p [] f = refl
none_from {X} p (x ∷ xs) f = by (p x) (f x (inl refl)) (none_from p xs (λ y h. f y (inr h)))
  where
    by : (b : Bool) → b ≡ false → find p xs ≡ None → cond b (Some x) (find p xs) ≡ None
    by true e r = absurd (true≢false e)
    by false e r = r

pub finished_from : (s : Core) → ((t : Target) (c : Cand) → IsColumnTarget (width s.rows) t → Listed c (cands s t) → is_unfinished (next s.rows) c ≡ false) → first_unfinished s ≡ None
unfolding first_unfinished
finished_from s f = none_from (λ (e : Target × Cand). is_unfinished (next s.rows) e.1) (entries s) (λ e h. let w = IsEntry-listed s e h in f e.0 e.1 w.target w.listed)

module _ (s : Core) (sound : Sound s) (none : first_unfinished s ≡ None) where
  -- marks that go no lower
  finished-remarked : (t : Target) → IsColumnTarget (width s.rows) t → (f : Cand → Cand) → ((c : Cand) → c.upto ≤ (f c).upto) → first_unfinished (with_cands s t (map f (cands s t))) ≡ None
  finished-remarked t target f more = finished_from (with_cands s t (map f (cands s t))) (λ u c l h. by u c l h (target_cases s.candidates t u (map f (cands s t))))
    where
      raised : (c : Cand) → Listed c (map f (cands s t)) → is_unfinished (next s.rows) c ≡ false
      raised c h =
          let w = Listed-map_which f c (cands s t) h in
          let a = ltb-false w.0.upto (next s.rows) (all_finished s t w.0 none target w.1) in
          let b = more w.0 in
          ap (is_unfinished (next s.rows)) w.2 ∙ le-ltb (f w.0).upto (next s.rows) (omega arith)

      by : (u : Target) (c : Cand) → IsColumnTarget (width s.rows) u → Listed c (cands (with_cands s t (map f (cands s t))) u) → (t ≡ u) ⊎ (cands_of (with_list s.candidates t (map f (cands s t))) u ≡ cands_of s.candidates u) → is_unfinished (next s.rows) c ≡ false
      by u c l h (inl e) =
          let g : Listed c (cands (with_cands s t (map f (cands s t))) t) = subst (λ (u : Target). Listed c (cands (with_cands s t (map f (cands s t))) u)) (sym e) h in
          raised c (subst (Listed c) (cands_of-with_list s.candidates t (map f (cands s t)) (subst (λ (n : ℕ). IsColumnTarget n t) (sym sound.columns) target)) g)
      by u c l h (inr e) = all_finished s u c none l (subst (Listed c) e h)

  -- a candidate that holds in all rows is refuted by no two of them
  none_refuted : (i j : ℕ) → i ≢ j → is_live s.rows i ≡ true → is_live s.rows j ≡ true → refutes_some s (agree_of s.rows i j) ≡ true → ⊥
  none_refuted i j ne a b e =
      let d = refutes_some-which s (agree_of s.rows i j) e in
      let m = cand-marked s d.target d.cand sound d.entry.target d.entry.listed in
      let all = ltb-false d.cand.upto (next s.rows) (all_finished s d.target d.cand none d.entry.target d.entry.listed) in
      let x = live-Contains s.rows i a in
      let y = live-Contains s.rows j b in
      let k = live_numbered s.rows i sound.rows (Listed-contained i s.rows.live x) in
      let l = live_numbered s.rows j sound.rows (Listed-contained j s.rows.live y) in
      let holds = m.holds.each i j x y (omega arith) (omega arith) ne d.inside in
      true≢false (sym holds ∙ not-true _ (and_parts _ _ d.lacks).1)

  no_draw : (t : Target) (c : Cand) → first_drawable s ≡ Some (t, c) → ⊥
  no_draw t c e =
      let w = drawable-entry s t c e in
      true≢false (sym (and_parts _ _ (drawable-test s t c e)).0 ∙ all_finished s t c none w.target w.listed)

  drawing_finished : (new : Core) (reply : Reply) → IsDrawing s reply new → first_unfinished new ≡ None
  drawing_finished new (Job job) d = absurd (no_draw job.target _ d.first)
  drawing_finished new (Busy t x) d = ap first_unfinished d.1 ∙ none
  drawing_finished new Settled d = ap first_unfinished d.1 ∙ none
  drawing_finished new NoMemory d = ap first_unfinished d ∙ none
  drawing_finished new _ d = absurd d

  refuting_finished : (new : Core) (i j : ℕ) (reply : Reply) → i ≢ j → IsRefuting s i j reply new → first_unfinished new ≡ None
  refuting_finished new i j (Gone row) ne d = ap first_unfinished d.1 ∙ none
  refuting_finished new i j Known ne d = ap first_unfinished d.2 ∙ none
  refuting_finished new i j Booked ne d = absurd (none_refuted i j ne d.0.first d.0.second d.1)
  refuting_finished new i j NoMemory ne d = ap first_unfinished d ∙ none
  refuting_finished new i j _ ne d = absurd d

  marking_finished : (new : Core) (job : JobParts) (reply : Reply) → IsColumnTarget (width s.rows) job.target → IsMarking s job reply new → first_unfinished new ≡ None
  marking_finished new job Marked l d = ap first_unfinished d.1 ∙ finished-remarked job.target l (λ c. cond (eqb c.left job.left) (record { left = job.left; upto = max c.upto job.to; held = false }) c) (λ c. more c (eqb c.left job.left))
    where
      more : (c : Cand) (b : Bool) → c.upto ≤ (cond b (record { left = job.left; upto = max c.upto job.to; held = false }) c).upto
      more c true = omega arith
      more c false = omega arith
  marking_finished new job Dropped l d = ap first_unfinished d.1 ∙ none
  marking_finished new job _ l d = absurd d

  releasing_finished : (new : Core) (job : JobParts) (reply : Reply) → IsColumnTarget (width s.rows) job.target → IsReleasing s job reply new → first_unfinished new ≡ None
  releasing_finished new job Released l d = ap first_unfinished d.1 ∙ finished-remarked job.target l (λ c. cond (eqb c.left job.left) (record { left = job.left; upto = c.upto; held = false }) c) (λ c. more c (eqb c.left job.left))
    where
      more : (c : Cand) (b : Bool) → c.upto ≤ (cond b (record { left = job.left; upto = c.upto; held = false }) c).upto
      more c true = omega arith
      more c false = omega arith
  releasing_finished new job Dropped l d = ap first_unfinished d.1 ∙ none
  releasing_finished new job _ l d = absurd d

  applying_finished : (new : Core) (ops : List Op) (reply : Reply) → is_accepted reply ≡ false → IsApplying s ops reply new → first_unfinished new ≡ None
  applying_finished new ops (Applied inserted deleted) quiet d = absurd (true≢false quiet)
  applying_finished new ops (Refused at why) quiet d = ap first_unfinished d.1 ∙ none
  applying_finished new ops NoMemory quiet d = ap first_unfinished d ∙ none
  applying_finished new ops _ quiet d = absurd d

  settling_finished : (new : Core) (reply : Reply) → IsSettling s reply new → first_unfinished new ≡ None
  settling_finished new (Ready covers) d = ap first_unfinished d.2 ∙ none
  settling_finished new (NotYet t x number) d = ap first_unfinished d.1 ∙ none
  settling_finished new NoMemory d = ap first_unfinished d ∙ none
  settling_finished new _ d = absurd d

step_finished : (jobs : List JobParts) (s new : Core) (call : Call) (reply : Reply) → SoundWith s jobs → first_unfinished s ≡ None → May jobs s.rows call → is_accepted reply ≡ false → Step s call reply new → first_unfinished new ≡ None
step_finished jobs s new Draw reply h none may quiet d = drawing_finished s h.sound none new reply d
step_finished jobs s new (Refute i j) reply h none may quiet d = refuting_finished s h.sound none new i j reply may d
step_finished jobs s new (Mark job) reply h none may quiet d = marking_finished s h.sound none new job reply (All-listed (Fits s.rows) job jobs h.fits (Listed-contained job jobs may.0)).target d
step_finished jobs s new (Release job) reply h none may quiet d = releasing_finished s h.sound none new job reply may.0 d
step_finished jobs s new (Apply ops) reply h none may quiet d = applying_finished s h.sound none new ops reply quiet d
step_finished jobs s new Settle reply h none may quiet d = settling_finished s h.sound none new reply d

pub quiet_keeps : (jobs : List JobParts) (s new : Core) (quiet : List Entry) → SoundWith s jobs → Runs jobs s quiet new → IsQuiet quiet → first_unfinished s ≡ None → first_unfinished new ≡ None
quiet_keeps jobs s new [] h e q none = ap first_unfinished e ∙ none
quiet_keeps jobs s new (e ∷ es) h r q none =
    let first = All-listed (λ (e : Entry). is_accepted e.reply ≡ false) e (e ∷ es) q (inl refl) in
    let rest = All-from (λ (e : Entry). is_accepted e.reply ≡ false) es (λ d g. All-listed (λ (e : Entry). is_accepted e.reply ≡ false) d (e ∷ es) q (inr g)) in
    quiet_keeps (jobs ++ drawn e.reply) r.0 new es (step_keeps jobs s r.0 e.call e.reply h r.1 r.2) r.3 rest (step_finished jobs s r.0 e.call e.reply h none r.1 first r.2)

-- ---- witnesses
is_live-Contains : (r : RowState) (i : ℕ) → Contains r.live i → is_live r i ≡ true
is_live-Contains r i h = list_any_at (eqb i) i r.live (Listed-contained i r.live h) (eq-eqb i i refl)

module _ (s : Core) (w : Witness) (listed : Listed w s.witnesses) where
  witness-drawing : (new : Core) (reply : Reply) → IsDrawing s reply new → Listed w new.witnesses
  witness-drawing new (Job job) d = subst (λ (m : Core). Listed w m.witnesses) (sym d.after) listed
  witness-drawing new (Busy t x) d = subst (λ (m : Core). Listed w m.witnesses) (sym d.1) listed
  witness-drawing new Settled d = subst (λ (m : Core). Listed w m.witnesses) (sym d.1) listed
  witness-drawing new NoMemory d = subst (λ (m : Core). Listed w m.witnesses) (sym d) listed
  witness-drawing new _ d = absurd d

  witness-refuting : (new : Core) (i j : ℕ) (reply : Reply) → IsRefuting s i j reply new → Listed w new.witnesses
  witness-refuting new i j (Gone row) d = subst (λ (m : Core). Listed w m.witnesses) (sym d.1) listed
  witness-refuting new i j Known d = subst (λ (m : Core). Listed w m.witnesses) (sym d.2) listed
  witness-refuting new i j Booked d = subst (λ (m : Core). Listed w m.witnesses) (sym d.2) (Listed-append_left w s.witnesses (witness_of s.rows i j ∷ []) listed)
  witness-refuting new i j NoMemory d = subst (λ (m : Core). Listed w m.witnesses) (sym d) listed
  witness-refuting new i j _ d = absurd d

  witness-marking : (new : Core) (job : JobParts) (reply : Reply) → IsMarking s job reply new → Listed w new.witnesses
  witness-marking new job Marked d = subst (λ (m : Core). Listed w m.witnesses) (sym d.1) listed
  witness-marking new job Dropped d = subst (λ (m : Core). Listed w m.witnesses) (sym d.1) listed
  witness-marking new job _ d = absurd d

  witness-releasing : (new : Core) (job : JobParts) (reply : Reply) → IsReleasing s job reply new → Listed w new.witnesses
  witness-releasing new job Released d = subst (λ (m : Core). Listed w m.witnesses) (sym d.1) listed
  witness-releasing new job Dropped d = subst (λ (m : Core). Listed w m.witnesses) (sym d.1) listed
  witness-releasing new job _ d = absurd d

  witness-applying : (new : Core) (ops : List Op) (reply : Reply) → Stands new.rows w → IsApplying s ops reply new → Listed w new.witnesses
  witness-applying new ops (Applied inserted deleted) stands d =
      let here : Stands d.rows w = subst (λ (m : Core). Stands m.rows w) d.state stands in
      subst (λ (m : Core). Listed w m.witnesses) (sym d.state)
      (Listed-filter (λ w. is_live d.rows w.i && is_live d.rows w.j) w s.witnesses listed (and_from _ _ (is_live-Contains d.rows w.i here.first) (is_live-Contains d.rows w.j here.second)))
  witness-applying new ops (Refused at why) stands d = subst (λ (m : Core). Listed w m.witnesses) (sym d.1) listed
  witness-applying new ops NoMemory stands d = subst (λ (m : Core). Listed w m.witnesses) (sym d) listed
  witness-applying new ops _ stands d = absurd d

  witness-settling : (new : Core) (reply : Reply) → IsSettling s reply new → Listed w new.witnesses
  witness-settling new (Ready covers) d = subst (λ (m : Core). Listed w m.witnesses) (sym d.2) listed
  witness-settling new (NotYet t x number) d = subst (λ (m : Core). Listed w m.witnesses) (sym d.1) listed
  witness-settling new NoMemory d = subst (λ (m : Core). Listed w m.witnesses) (sym d) listed
  witness-settling new _ d = absurd d

  step_witness : (new : Core) (call : Call) (reply : Reply) → Stands new.rows w → Step s call reply new → Listed w new.witnesses
  step_witness new Draw reply stands d = witness-drawing new reply d
  step_witness new (Refute i j) reply stands d = witness-refuting new i j reply d
  step_witness new (Mark job) reply stands d = witness-marking new job reply d
  step_witness new (Release job) reply stands d = witness-releasing new job reply d
  step_witness new (Apply ops) reply stands d = witness-applying new ops reply stands d
  step_witness new Settle reply stands d = witness-settling new reply d

-- of a row that was given before, what is live later was live
stood : (r q : RowState) (w : Witness) → Follows r q → w.i < next r → w.j < next r → Stands q w → Stands r w
stood r q w f i j h = record { first = f.live w.i i h.first; second = f.live w.j j h.second }

runs_witness : (jobs : List JobParts) (s new : Core) (es : List Entry) (w : Witness) → SoundWith s jobs → Runs jobs s es new → Listed w s.witnesses → Stands new.rows w → Listed w new.witnesses
runs_witness jobs s new [] w h e l stands = subst (λ (m : Core). Listed w m.witnesses) (sym e) l
runs_witness jobs s new (e ∷ es) w h r l stands =
    let keeps = step_keeps jobs s r.0 e.call e.reply h r.1 r.2 in
    let is = All-listed (IsWitness s.rows) w s.witnesses h.sound.witnesses l in
    let f = step_follows jobs s r.0 e.call e.reply h.sound.rows r.1 r.2 in
    let a = live_numbered s.rows w.i h.sound.rows (Listed-contained w.i s.rows.live is.first) in
    let b = live_numbered s.rows w.j h.sound.rows (Listed-contained w.j s.rows.live is.second) in
    let m = f.more in
    let there = stood r.0.rows new.rows w (runs_follow (jobs ++ drawn e.reply) r.0 new es keeps r.3) (omega arith) (omega arith) stands in
    runs_witness (jobs ++ drawn e.reply) r.0 new es w keeps r.3 (step_witness s w l r.0 e.call e.reply there r.2) stands

runs_booked : (jobs : List JobParts) (s new : Core) (before later : List Entry) (i j : ℕ) → SoundWith s jobs → Runs jobs s (before ++ booking i j ∷ later) new → Stands new.rows (witness_of (rows_after s.rows before) i j) → Listed (witness_of (rows_after s.rows before) i j) new.witnesses
runs_booked jobs s new [] later i j h r stands =
    runs_witness (jobs ++ []) r.0 new later (witness_of s.rows i j) (step_keeps jobs s r.0 (Refute i j) Booked h r.1 r.2) r.3
    (subst (λ (m : Core). Listed (witness_of s.rows i j) m.witnesses) (sym r.2.2) (Listed-append_right (witness_of s.rows i j) s.witnesses (witness_of s.rows i j ∷ []) (inl refl))) stands
runs_booked jobs s new (e ∷ es) later i j h r stands =
    let same : rows_after r.0.rows es ≡ rows_after s.rows (e ∷ es) = ap (λ (q : RowState). rows_after q es) (step_rows s r.0 e.call e.reply r.2) in
    subst (λ (q : RowState). Listed (witness_of q i j) new.witnesses) same
    (runs_booked (jobs ++ drawn e.reply) r.0 new es later i j (step_keeps jobs s r.0 e.call e.reply h r.1 r.2) r.3 (subst (λ (q : RowState). Stands new.rows (witness_of q i j)) (sym same) stands))

pub witnesses_stay : (jobs : List JobParts) (s new : Core) → SoundWith s jobs → WitnessesStay jobs s new
witnesses_stay jobs s new h = record {
  there = λ es w r l stands. Contains-listed w new.witnesses (runs_witness jobs s new es w h r (Listed-contained w s.witnesses l) stands);
  booked = λ before later i j r stands. Contains-listed (witness_of (rows_after s.rows before) i j) new.witnesses (runs_booked jobs s new before later i j h r stands);
}
