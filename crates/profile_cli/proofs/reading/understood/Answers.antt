use Rattle.std.proofs.Common.{◌∙◌, ◌≤◌, ◌∷◌, [], List, ℕ, ap, length, refl, sym, subst}
use Rattle.ports.specs.declared.loading.Loading.{Loading}
use Rattle.ports.specs.Whole.{Loads}
use Rattle.profile_cli.specs.FilesRead.{IsReadAs, Understands}
use Rattle.profile_cli.specs.declared.reading.FileRead.TheVariants.{Read}
use Rattle.profile_cli.specs.declared.reading.Held.TheVariants as held
use Rattle.task_base.specs.declared.reads.ReadAs.{ReadAs}
use Rattle.task_base.specs.declared.reads.ReadAs.TheVariants.{Relation, Text}
use Rattle.profile_cli.proofs.Files.{long_is, text_is}
use Rattle.profile_cli.proofs.reading.understood.Goals as goal

pub returns-in-Relation-clause-read_as : goal.returns-in-Relation-clause-read_as
returns-in-Relation-clause-read_as g c = subst (λ (k : ReadAs). IsReadAs c.relation_of.result k) (sym c.in-Relation.is) c.relation_of.ensures.relation

pub returns-in-Relation-clause-bytes : goal.returns-in-Relation-clause-bytes
returns-in-Relation-clause-bytes g c bytes loads =
    let limits = c.args.means.now.limits in
    let l = subst (λ (x : Loading). Loads x limits.bytes bytes) c.in-Loaded.is loads in
    let same = c.as_slice.ensures.value ∙ l.0 in
    subst (λ (k : ReadAs). Understands c.relation_of.result k limits bytes) (sym c.in-Relation.is)
    (subst (λ (bs : List ℕ). Understands c.relation_of.result Relation limits bs) same (c.relation_of.ensures.bytes (subst (λ (bs : List ℕ). length bs ≤ limits.bytes) (sym same) l.1)))

pub returns-in-Text-clause-bytes : goal.returns-in-Text-clause-bytes
returns-in-Text-clause-bytes g c bytes loads =
    let limits = c.args.means.now.limits in
    let l = subst (λ (x : Loading). Loads x limits.bytes bytes) c.in-Loaded.is loads in
    let known : Understands (Read (held.Text c.of.result)) Text limits bytes = (text_is limits bytes l.1, refl, ap (λ (t : List ℕ). t ∷ []) (c.of.ensures ∙ l.0)) in
    subst (λ (k : ReadAs). Understands (Read (held.Text c.of.result)) k limits bytes) (sym c.in-Text.is) known

pub returns-in-TooLong-clause-bytes : goal.returns-in-TooLong-clause-bytes
returns-in-TooLong-clause-bytes g c bytes loads =
    long_is c.args.read_as c.args.means.now.limits bytes (subst (λ (x : Loading). Loads x c.args.means.now.limits.bytes bytes) c.in-TooLong.is loads)
