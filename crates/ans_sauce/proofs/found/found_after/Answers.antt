use Rattle.std.proofs.Common.{ℕ, List, refl, subst}
use Rattle.std.specs.Prelude.{◌↔◌, IsTrue}
use Rattle.ans_sauce.specs.Found.{HoldsRecord}
use Rattle.ans_sauce.proofs.FoundLemmas.{some_last}
use Rattle.ans_sauce.proofs.found.found_after.Goals as goal

pub returns : goal.returns
returns c file is =
    let found = some_last c.args.after.now c.last_record_place.result c.last_record_place.ensures in (
      refl,
      is,
      subst (λ (bytes : List ℕ). IsTrue c.is_some.result ↔ HoldsRecord bytes) is (rw c.is_some.ensures found),
    )
