use Rattle.std.proofs.Common.{◌≡◌, ◌++◌, ◌<◌, ◌^◌, [], ℕ, List, length, ap, sym, ◌∙◌, subst}
use Rattle.std.specs.List.{All}
use Rattle.col_set.specs.ColSet.{IsSubset}
use Rattle.rel_base.specs.CodeTable.{CodeTable}
use Rattle.rel_base.specs.Shows.{code_agree_sets}
use Rattle.key_finder.specs.Keys.{keys_within}
use Rattle.key_finder.specs.Rounds.{IsNews, AreUnique, standing}
use Rattle.key_finder.proofs.Judging.{Searching, none_left, some_left, keys-inside, standing-less, finished_keys, searching_more}
use Rattle.key_finder.proofs.Tells.{Snapshots-tell}
use Rattle.key_finder.proofs.rounds.table_keys.Goals as goal

-- the candidates of a round, by the agree sets found so far
candidates : (t : CodeTable) (s : ℕ) (ws handed keys : List ℕ) → s < 2 ^ length t.codes → handed ≡ ws → ((n : ℕ) → s < 2 ^ n → keys ≡ keys_within n handed s) → keys ≡ keys_within (length t.codes) ws s
candidates t s ws handed keys b e k = k (length t.codes) b ∙ ap (λ (vs : List ℕ). keys_within (length t.codes) vs s) e

finished : (t : CodeTable) (s : ℕ) (ws held handed keys sent news : List ℕ) → s < 2 ^ length t.codes → Searching t s ws held → handed ≡ ws → ((n : ℕ) → s < 2 ^ n → keys ≡ keys_within n handed s) → sent ≡ keys → (news ≡ [] → AreUnique t s sent) → news ≡ [] → keys ≡ keys_within (length t.codes) (code_agree_sets t) s
finished t s ws held handed keys sent news b h e k f u g = finished_keys t (length t.codes) s ws keys b (candidates t s ws handed keys b e k) h.known (subst (AreUnique t s) f (u g))

pub judged-requires-clause-keys : goal.judged-requires-clause-keys
judged-requires-clause-keys c = subst (λ (keys : List ℕ). All (λ (key : ℕ). IsSubset key c.args.columns) keys) (sym c.as_slice-in-rounds.ensures.value)
    (keys-inside (length c.args.snapshot.now.codes) c.args.columns c.rounds.agree_sets.items c.in_ok-keys.keys.items (candidates c.args.snapshot.now c.args.columns c.rounds.agree_sets.items c.as_slice.result.now c.in_ok-keys.keys.items c.requires c.as_slice.ensures.value c.in_ok-keys.ensures))

pub returns-then-is_empty-clause-by_codes : goal.returns-then-is_empty-clause-by_codes
returns-then-is_empty-clause-by_codes c = finished c.args.snapshot.now c.args.columns c.rounds.agree_sets.items c.rounds.held.items c.as_slice.result.now c.in_ok-keys.keys.items c.as_slice-in-rounds.result.now c.in_ok-round.round.news.items
    c.requires c.rounds.invariant.search c.as_slice.ensures.value c.in_ok-keys.ensures c.as_slice-in-rounds.ensures.value c.in_ok-round.ensures.none (none_left _ c.in_ok-round.round.news.items c.in_ok-round.round.news.ok.0 (sym c.if-is_empty.ensures))

pub returns-then-is_empty-clause-keys : goal.returns-then-is_empty-clause-keys
returns-then-is_empty-clause-keys c r is shows equal =
    finished c.args.snapshot.now c.args.columns c.rounds.agree_sets.items c.rounds.held.items c.as_slice.result.now c.in_ok-keys.keys.items c.as_slice-in-rounds.result.now c.in_ok-round.round.news.items
    c.requires c.rounds.invariant.search c.as_slice.ensures.value c.in_ok-keys.ensures c.as_slice-in-rounds.ensures.value c.in_ok-round.ensures.none (none_left _ c.in_ok-round.round.news.items c.in_ok-round.round.news.ok.0 (sym c.if-is_empty.ensures))
    ∙ ap (λ (n : ℕ). keys_within n (code_agree_sets c.args.snapshot.now) c.args.columns) shows.columns
    ∙ sym (Snapshots-tell c.args.snapshot.now r c.args.columns is shows equal (subst (λ (n : ℕ). c.args.columns < 2 ^ n) shows.columns c.requires))

pub rounds-smaller : goal.rounds-smaller
rounds-smaller c = standing-less c.args.snapshot.now (length c.args.snapshot.now.codes) c.args.columns c.rounds.agree_sets.items c.in_ok-keys.keys.items c.in_ok-round.round.news.items c.extend_from_slice.new.self.items
    (candidates c.args.snapshot.now c.args.columns c.rounds.agree_sets.items c.as_slice.result.now c.in_ok-keys.keys.items c.requires c.as_slice.ensures.value c.in_ok-keys.ensures)
    (subst (λ (keys : List ℕ). All (IsNews c.args.snapshot.now c.args.columns keys) c.in_ok-round.round.news.items) c.as_slice-in-rounds.ensures.value c.in_ok-round.ensures.news)
    (some_left _ c.in_ok-round.round.news.items c.in_ok-round.round.news.ok.0 (sym c.if-is_empty.ensures))
    (c.in_ok-extend_from_slice.ensures.items ∙ ap (λ (more : List ℕ). c.rounds.agree_sets.items ++ more) c.as_slice-in-rounds-3.ensures.value)

pub rounds-preserved : goal.rounds-preserved
rounds-preserved c = record {
  path = c.judged.ensures.path;
  search = searching_more c.args.snapshot.now c.args.columns c.rounds.agree_sets.items c.rounds.held.items c.as_slice-in-rounds.result.now c.in_ok-round.round.news.items c.in_ok-round.round.held.items c.extend_from_slice.new.self.items
      c.rounds.invariant.search c.in_ok-round.ensures.news c.in_ok-round.ensures.held
      (c.in_ok-extend_from_slice.ensures.items ∙ ap (λ (more : List ℕ). c.rounds.agree_sets.items ++ more) c.as_slice-in-rounds-3.ensures.value);
}
