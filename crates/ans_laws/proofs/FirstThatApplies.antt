-- The first refusal that applies answers.
use Rattle.std.proofs.Common.{◌≡◌, Bool, true, false, List, [], ◌∷◌, ◌++◌, refl, ap, sym, ◌∙◌, ℕ, Some, All}
use Rattle.std.specs.Prelude.{◌↔◌, IsTrue, IsFalse, if◌then◌else◌}
use Rattle.std.proofs.lemmas.List.Elements.{All-nil, All-cons, All-head, All-tail}
use Rattle.ans_model.specs.declared.fault.Fault.{Fault}
use Rattle.ans_model.specs.File.Refusals.{Refusal, fault_at, first_refusal, file_refusals, record_fault}
use Rattle.ans_laws.specs.FileLaws.{IsFirstThatApplies}

some_same : (f g : Fault) → Some f ≡ Some g → f ≡ g
some_same f g e = cc

found_first : (rs : List Refusal) (f : Fault) → first_refusal rs ≡ Some f → IsFirstThatApplies rs f
found_first [] f e = absurd (cc)
found_first (r ∷ rs) f e = here r.applies (found_first rs f) refl e
  where
    here : (b : Bool) → (first_refusal rs ≡ Some f → IsFirstThatApplies rs f) → r.applies ≡ b
        → (if b then Some (fault_at r.offset r.cause) else first_refusal rs) ≡ Some f → IsFirstThatApplies (r ∷ rs) f
    here true behind a s = record {
      earlier = [];
      refusal = r;
      later = rs;
      whole = refl;
      none_earlier =
          All-nil _;
      applies = a;
      fault_is = some_same f _ (sym s);
    }
    here false behind a s =
        let more : IsFirstThatApplies rs f = behind s in
        record {
          earlier = r ∷ more.earlier;
          refusal = more.refusal;
          later = more.later;
          whole = ap (λ (v : List Refusal). r ∷ v) more.whole;
          none_earlier = All-cons (λ (q : Refusal). IsFalse q.applies) r more.earlier a more.none_earlier;
          applies = more.applies;
          fault_is = more.fault_is;
        }

-- refusals that do not apply are passed over
earlier_are_skipped : (earlier : List Refusal) (r : Refusal) (later : List Refusal)
    → All (λ (q : Refusal). IsFalse q.applies) earlier → IsTrue r.applies
    → first_refusal (earlier ++ r ∷ later) ≡ Some (fault_at r.offset r.cause)
earlier_are_skipped [] r later n a = rw a refl
earlier_are_skipped (e ∷ earlier) r later n a =
    let no : e.applies ≡ false = All-head (λ (q : Refusal). IsFalse q.applies) e earlier n in
    rw no (earlier_are_skipped earlier r later (All-tail (λ (q : Refusal). IsFalse q.applies) e earlier n) a)

-- the first that applies is the fault
first_is : (rs : List Refusal) (f : Fault) → IsFirstThatApplies rs f → first_refusal rs ≡ Some f
first_is rs f h = ap first_refusal h.whole ∙ earlier_are_skipped h.earlier h.refusal h.later h.none_earlier h.applies
    ∙ ap (λ (v : Fault). Some v) (sym h.fault_is)

-- a fault is that of the first refusal that applies, and the other way round
pub answers_first_that_applies : (file : List ℕ) (f : Fault) → (record_fault file ≡ Some f)
    ↔ IsFirstThatApplies (file_refusals file) f
answers_first_that_applies file f = (found_first (file_refusals file) f, first_is (file_refusals file) f)
