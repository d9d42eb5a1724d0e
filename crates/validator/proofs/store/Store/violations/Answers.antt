use Rattle.std.proofs.lemmas.Result.{IfOk-weaker}
use Rattle.validator.proofs.Exactly.{none_exactly}
use Rattle.validator.proofs.Likeness.{asked-alike, found_for}
use Rattle.validator.proofs.store.Store.violations.Goals as goal

pub look_up-requires-clause-asked : goal.look_up-requires-clause-asked
look_up-requires-clause-asked g c =
    asked-alike c.args.self.now c.args.job.now (record { left = c.left.result; target = c.target.result; from = c.from.result; most = c.args.most })
    c.requires.alike c.requires.fitting c.left.ensures c.target.ensures c.from.ensures c.requires.some

pub search_groups-requires : goal.search_groups-requires
search_groups-requires g c =
    asked-alike c.args.self.now c.args.job.now (record { left = c.left.result; target = c.target.result; from = c.from.result; most = c.args.most })
    c.requires.alike c.requires.fitting c.left.ensures c.target.ensures c.from.ensures c.requires.some

pub returns-in-Some-clause-pairs : goal.returns-in-Some-clause-pairs
returns-in-Some-clause-pairs g c = IfOk-weaker c.look_up.result _ _ (λ v f.
    (found_for c.args.self.now c.args.job.now (record { left = c.left.result; target = c.target.result; from = c.from.result; most = c.args.most }) v.items c.requires.alike c.left.ensures c.target.ensures f.found).each) c.look_up.ensures.answer

pub returns-in-Some-clause-groups : goal.returns-in-Some-clause-groups
returns-in-Some-clause-groups g c = IfOk-weaker c.look_up.result _ _ (λ v f.
    (found_for c.args.self.now c.args.job.now (record { left = c.left.result; target = c.target.result; from = c.from.result; most = c.args.most }) v.items c.requires.alike c.left.ensures c.target.ensures f.found).apart) c.look_up.ensures.answer

pub returns-in-Some-clause-few : goal.returns-in-Some-clause-few
returns-in-Some-clause-few g c = IfOk-weaker c.look_up.result _ _ (λ v f. f.few) c.look_up.ensures.answer

pub returns-in-Some-clause-exactly : goal.returns-in-Some-clause-exactly
returns-in-Some-clause-exactly g c = IfOk-weaker c.look_up.result _ _ (λ v f.
    none_exactly c.args.job.now v.items (found_for c.args.self.now c.args.job.now (record { left = c.left.result; target = c.target.result; from = c.from.result; most = c.args.most }) v.items c.requires.alike c.left.ensures c.target.ensures f.found)) c.look_up.ensures.answer

pub returns-in-None-clause-pairs : goal.returns-in-None-clause-pairs
returns-in-None-clause-pairs g c = IfOk-weaker c.search_groups.result _ _ (λ v f.
    (found_for c.args.self.now c.args.job.now (record { left = c.left.result; target = c.target.result; from = c.from.result; most = c.args.most }) v.items c.requires.alike c.left.ensures c.target.ensures f.found).each) c.search_groups.ensures.answer

pub returns-in-None-clause-groups : goal.returns-in-None-clause-groups
returns-in-None-clause-groups g c = IfOk-weaker c.search_groups.result _ _ (λ v f.
    (found_for c.args.self.now c.args.job.now (record { left = c.left.result; target = c.target.result; from = c.from.result; most = c.args.most }) v.items c.requires.alike c.left.ensures c.target.ensures f.found).apart) c.search_groups.ensures.answer

pub returns-in-None-clause-few : goal.returns-in-None-clause-few
returns-in-None-clause-few g c = IfOk-weaker c.search_groups.result _ _ (λ v f. f.few) c.search_groups.ensures.answer

pub returns-in-None-clause-exactly : goal.returns-in-None-clause-exactly
returns-in-None-clause-exactly g c = IfOk-weaker c.search_groups.result _ _ (λ v f.
    none_exactly c.args.job.now v.items (found_for c.args.self.now c.args.job.now (record { left = c.left.result; target = c.target.result; from = c.from.result; most = c.args.most }) v.items c.requires.alike c.left.ensures c.target.ensures f.found)) c.search_groups.ensures.answer
