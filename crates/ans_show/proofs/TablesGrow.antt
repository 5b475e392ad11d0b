-- Tables and texts, as they grow.
use Rattle.std.proofs.Common.{◌≡◌, ℕ, ◌+◌, ◌<◌, List, length, get_or, ap, sym, ◌∙◌, arith, inl, inr, set}
use Rattle.std.proofs.lemmas.Bool.{cases_eq}
use Rattle.std.proofs.lemmas.Grind.{get_or-set_at}
use Rattle.std.proofs.lemmas.List.{get_or-set_other}

-- one text more in a table
pub text_more : {X : Type 0} (read : X → List ℕ) (f : ℕ → List ℕ) (table : List X) (i : ℕ) (c : X) → i < length table
    → ((b : ℕ) (d : X) → b < i → read (get_or table b d) ≡ f b) → read c ≡ f i
    → (b : ℕ) (d : X) → b < i + 1 → read (get_or (set table i c) b d) ≡ f b
text_more read f table i c lt before here b d l = elim (cases_eq b i) [
  | inl e ↦ ap read (get_or-set_at table i b c d e lt) ∙ here ∙ ap f (sym e)
  | inr ne ↦ ap read (get_or-set_other table i b c d ne) ∙ before b d (omega arith)
]
