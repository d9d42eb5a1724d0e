-- Passes that make calls, are split and are joined.
use Rattle.std.proofs.Common.{◌≡◌, ℕ, [], ◌∷◌, ◌++◌, refl, sym, ap, ◌∙◌, subst, ⊎_elim, append_assoc}
use Rattle.std.specs.List.{Contains}
use Rattle.std.proofs.lemmas.List.{append-nil, append_cancel_left}
use Rattle.rel_base.specs.JobParts.{JobParts}
use Rattle.cover_steps.specs.declared.step.Call.{Call}
use Rattle.cover_steps.specs.declared.step.Call.TheVariants as calls
use Rattle.cover_steps.specs.Core.{Core}
use Rattle.cover_core.specs.declared.answers.Draw.TheVariants as draws
use Rattle.desk_lock.specs.declared.view.View.{View}
use Rattle.desk_lock.specs.History.{entry, Begins, GoesOn, NoneIn}
use Rattle.desk_lock.specs.Views.{InHome, seeing, kept_of, given_of, united}
use Rattle.desk_lock.specs.Passes.{view}
use Rattle.desk_lock.proofs.Histories.{none-append, none-end, none-narrower}
use Rattle.desk_lock.proofs.Numbers.{in_united-left, in_united-right, split-either}
use Rattle.desk.specs.declared.turns.Reply.{Reply}
use Rattle.desk.specs.declared.turns.Reply.TheVariants as replies
use Rattle.desk.specs.declared.desk.Desk.{Desk}
use Rattle.desk.specs.Turns.{jobs_in, drawn_later}
use Rattle.desk.specs.Desks.{Place, History, opened_book, seen, TookTurn, WasDrawn}
use Rattle.desk.proofs.Answering.{seen_is}
use Rattle.refine_pool.specs.Crews.{WentOn, TakesOver, SettledAfter, SettledLast}

abbrev pub V : Type 0
V = View Core Call Reply

-- ---- one pass that makes calls
pub went_nowhere : (p : Place) → WentOn p p
went_nowhere p = ([], ap (λ (h : History). let v : V = record (view p) { seen = h } in v) (sym (append-nil (seen p))))

pub went_further : (p q r : Place) → WentOn p q → WentOn q r → WentOn p r
went_further p q r a b = (
  a.0 ++ b.0,
  b.1 ∙ ap (λ (v : V). seeing b.0 v) a.1 ∙ ap (λ (h : History). let v : V = record (view p) { seen = h } in v) (append_assoc (seen p) a.0 b.0),
)

pub turn_went : (desk : Desk) (p q : Place) (call : Call) (reply : Reply) → TookTurn desk p call reply q → WentOn p q
turn_went desk p q call reply t = (t.0 ++ entry (view p).low call reply ∷ [], t.2)

pub one_more : (desk : Desk) (p q r : Place) (call : Call) (reply : Reply) → WentOn p q → TookTurn desk q call reply r → WentOn p r
one_more desk p q r call reply a t = went_further p q r a (turn_went desk q r call reply t)

-- what was drawn stays drawn
pub went_drawn : (desk : Desk) (p q : Place) (job : JobParts) → WentOn p q → WasDrawn desk p job → WasDrawn desk q job
went_drawn desk p q job a d = record {
  drawn = subst (λ (h : History). Contains (jobs_in h) job) (sym (ap (λ (v : V). v.seen) a.1)) (drawn_later (seen p) a.0 job d.drawn);
  target = d.target;
  left = d.left;
  fitting = d.fitting;
}

pub went_begins : (p q : Place) → WentOn p q → Begins (seen p) (seen q)
went_begins p q a = (a.0, ap (λ (v : V). v.seen) a.1)

-- ---- beginnings
pub begins_itself : (a : History) → Begins a a
begins_itself a = ([], sym (append-nil a))

pub begins_further : (a b c : History) → Begins a b → Begins b c → Begins a c
begins_further a b c x y = (x.0 ++ y.0, y.1 ∙ ap (λ (h : History). h ++ y.0) x.1 ∙ append_assoc a x.0 y.0)

pub goes_further : (home : ℕ → Type 0) (a b c : History) → GoesOn home a b → GoesOn home b c → GoesOn home a c
goes_further home a b c x y = (x.0 ++ y.0, y.1 ∙ ap (λ (h : History). h ++ y.0) x.1 ∙ append_assoc a x.0 y.0, none-append home x.0 y.0 x.2 y.2)

pub goes_narrower : (home other : ℕ → Type 0) (a b : History) → ((n : ℕ) → other n → home n) → GoesOn home a b → GoesOn other a b
goes_narrower home other a b f g = (g.0, g.1, none-narrower home other g.0 f g.2)

-- ---- passes that take over from others
pub over_went : (p q : Place) → WentOn p q → TakesOver p q
over_went p q a = record { home = λ n h. subst (λ (v : V). InHome v n) (sym a.1) h; begins = went_begins p q a }

pub over_itself : (p : Place) → TakesOver p p
over_itself p = record { home = λ n h. h; begins = begins_itself (seen p) }

pub over_further : (p q r : Place) → TakesOver p q → TakesOver q r → TakesOver p r
over_further p q r a b = record { home = λ n h. b.home n (a.home n h); begins = begins_further (seen p) (seen q) (seen r) a.begins b.begins }

-- a pass that is split, and whose halves come back as one
pub over_both : (p l r m q u : Place) (at : ℕ) → view l ≡ kept_of at (view p) → view r ≡ given_of at (view p) → TakesOver l m → TakesOver r q → view u ≡ united (view m) (view q) → Begins (seen m) (seen u) → TakesOver p u
over_both p l r m q u at l_is r_is tl tr u_is b = record {
  home = λ n h. subst (λ (v : V). InHome v n) (sym u_is)
      (⊎_elim
      (λ k. in_united-left (view m) (view q) n (tl.home n (subst (λ (v : V). InHome v n) (sym l_is) k)))
      (λ g. in_united-right (view m) (view q) n (tr.home n (subst (λ (v : V). InHome v n) (sym r_is) g)))
      (split-either (view p) at n h));
  begins = begins_further (seen p) (seen m) (seen u) (subst (λ (h : History). Begins h (seen m)) (ap (λ (v : V). v.seen) l_is) tl.begins) b;
}

-- ---- who found all settled
pub draw_settles : (desk : Desk) (p q : Place) → TookTurn desk p calls.Draw (replies.Drawn draws.Settled) q → SettledAfter (seen p) (seen q)
draw_settles desk p q t = record {
  between = t.0;
  entry = entry (view p).low calls.Draw (replies.Drawn draws.Settled);
  later = [];
  parts = seen_is (view p) (view q) (opened_book desk) calls.Draw (replies.Drawn draws.Settled) t;
  settled = refl;
}

pub settled_before : (a b h : History) → Begins a b → SettledAfter b h → SettledAfter a h
settled_before a b h x s = record {
  between = x.0 ++ s.between;
  entry = s.entry;
  later = s.later;
  parts = s.parts ∙ ap (λ (k : History). k ++ s.entry ∷ s.later) (ap (λ (k : History). k ++ s.between) x.1 ∙ append_assoc a x.0 s.between);
  settled = s.settled;
}

pub settled_later : (a b c : History) → SettledAfter a b → Begins b c → SettledAfter a c
settled_later a b c s x = record {
  between = s.between;
  entry = s.entry;
  later = s.later ++ x.0;
  parts = x.1 ∙ ap (λ (k : History). k ++ x.0) s.parts ∙ append_assoc (a ++ s.between) (s.entry ∷ s.later) x.0;
  settled = s.settled;
}

pub settled_last : (a h : History) → SettledAfter a h → GoesOn (λ n. n ≡ 0) a h → SettledLast h
settled_last a h s g =
    let same : s.between ++ s.entry ∷ s.later ≡ g.0 = append_cancel_left a (s.between ++ s.entry ∷ s.later) g.0 (sym (append_assoc a s.between (s.entry ∷ s.later)) ∙ sym s.parts ∙ g.1) in
    record {
      past = a ++ s.between;
      entry = s.entry;
      later = s.later;
      parts = s.parts;
      settled = s.settled;
      quiet = (none-end (λ n. n ≡ 0) s.between (s.entry ∷ s.later) (subst (NoneIn (λ n. n ≡ 0)) (sym same) g.2)).1;
    }
