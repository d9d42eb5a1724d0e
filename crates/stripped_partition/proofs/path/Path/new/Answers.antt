use Rattle.std.proofs.Common.{◌≡◌, [], List, ℕ, length, replicate, refl, sym, subst}
use Rattle.std.specs.List.{All}
use Rattle.std.proofs.lemmas.List.Elements.{All-nil}
use Rattle.col_set.specs.ColSet.{empty}
use Rattle.stripped_partition.specs.Paths.{IsLevel, IsTop}
use Rattle.stripped_partition.proofs.Refining.{in_its_order}
use Rattle.stripped_partition.proofs.path.Path.new.Goals as goal

clear_slots : (slots : List ℕ) → slots ≡ [] → slots ≡ replicate (length slots) 0
clear_slots slots e = subst (λ (z : List ℕ). z ≡ replicate (length z) 0) (sym e) refl

pub invariant_of-result : goal.invariant_of-result
invariant_of-result c =
    let s = c.args.snapshot.now in
    record {
      whole = in_its_order s empty c.in_ok-all.all c.in_ok-all.ensures.value;
      each = record {
        before = subst (All (IsLevel s)) (sym c.none.ensures.below) (All-nil (IsLevel s));
        last = subst (IsTop s) (sym c.none.ensures.top) tt;
      };
      clear = clear_slots c.new.result.items c.new.ensures.items;
    }
