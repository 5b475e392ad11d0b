-- Which refusal a file gets.
use Rattle.std.specs.Prelude.{◌≡◌, IsTrue, IsFalse, List, ◌∷◌, ◌++◌, All}
use Rattle.ans_model.specs.declared.fault.Fault.{Fault}
use Rattle.ans_model.specs.File.Refusals.{Refusal, fault_at}

-- One of the refusals applies, none before it does, and the fault is its.
pub record IsFirstThatApplies (refusals : List Refusal) (fault : Fault) : Type 0 where
  pub earlier : List Refusal
  pub refusal : Refusal
  pub later : List Refusal
  pub whole : refusals ≡ earlier ++ refusal ∷ later
  pub none_earlier : All (λ r. IsFalse r.applies) earlier
  pub applies : IsTrue refusal.applies
  pub fault_is : fault ≡ fault_at refusal.offset refusal.cause
