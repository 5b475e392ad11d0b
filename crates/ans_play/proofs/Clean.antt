-- A clean list stays clean with one more token that has no fault.
use Rattle.std.proofs.Common.{◌≡◌, ℕ, zero, suc, ◌<◌, sym, ap, ◌∙◌, arith, refl, List, [], ◌∷◌, ◌++◌, length, Some, inl}
use Rattle.std.proofs.Common.{inr, subst, replicate, append_assoc, All, lit<}
use Rattle.std.proofs.lemmas.List.Elements.{All-append, All-replicate}
use Rattle.std.specs.Prelude.{slice_get}
use Rattle.std.proofs.lemmas.Bool.{cases_lt}
use Rattle.std.proofs.lemmas.List.{take-append-le, take_at, length_push, append-nil}
use Rattle.std.proofs.lemmas.Option.{same_Some, slice_get_within}
use Rattle.ans_model.specs.Sequence.TokenKind.{TokenKind, Glyph, PrintsByte}
use Rattle.ans_model.specs.Bytes.{blank}
use Rattle.ans_model.specs.Screen.State.{Size}
use Rattle.ans_model.specs.declared.start.Start.{Start}
use Rattle.ans_model.specs.Verdict.TokenFault.{HasFault, HasPrintFault, IsClean, then_blanks}
use Rattle.ans_model.specs.declared.fault.Cause.{Cause}
use Rattle.ans_model.proofs.Slices.{slice_get-append_left}

-- the element after a list
slice_get_at : (xs ys : List TokenKind) (t : TokenKind) → slice_get (xs ++ t ∷ ys) (length xs) ≡ Some t
slice_get_at [] ys t = refl
slice_get_at (x ∷ xs) ys t = slice_get_at xs ys t

-- a clean list stays clean with a token that has no fault
pub clean_more : (z : Size) (class : Start) (played : List TokenKind) (t : TokenKind) → IsClean z class played →
    ((cause : Cause) → ¬ HasFault z class played t cause) → IsClean z class (played ++ t ∷ [])
clean_more z class played t clean none k cause b = elim (cases_lt k (length played)) [
  | inl early ↦ clean k cause (
    b.0,
    sym (slice_get-append_left played (t ∷ []) k early) ∙ b.1,
    subst (λ (xs : List TokenKind). HasFault z class xs b.0 cause) (take-append-le k played (t ∷ []) (omega arith)) b.2,
  )
  | inr late ↦
      let within : k < length (played ++ t ∷ []) = slice_get_within (played ++ t ∷ []) k b.0 b.1 in
      let last : k ≡ length played = omega (arith, length_push played t) in
      let same : t ≡ b.0 = same_Some t b.0 (sym (slice_get_at played [] t)
      ∙ ap (λ (i : ℕ). slice_get (played ++ t ∷ []) i) (sym last) ∙ b.1) in
      none cause
      (subst (λ (x : TokenKind). HasFault z class played x cause) (sym same)
      (subst (λ (xs : List TokenKind). HasFault z class xs b.0 cause) (take_at played (t ∷ []) k (sym last)) b.2))
]

-- no tokens are clean
pub clean_none : (z : Size) (class : Start) → IsClean z class []
clean_none z class k cause b = absurd (cc)

-- one blank more is one more to begin with
pub one_blank_first : (played : List TokenKind) (n : ℕ) →
    then_blanks (played ++ Glyph blank ∷ []) n ≡ then_blanks played (suc n)
one_blank_first played n = append_assoc played (Glyph blank ∷ []) (replicate n (Glyph blank))

-- a clean list stays clean with n blanks of which none has a fault
pub clean_blanks : (z : Size) (class : Start) (n : ℕ) (played : List TokenKind) → IsClean z class played →
    ((m : ℕ) (c : Cause) → m < n → ¬ HasPrintFault z class (then_blanks played m) c) →
    IsClean z class (then_blanks played n)
clean_blanks z class zero played clean none = rw (append-nil played) clean
clean_blanks z class (suc n) played clean none =
    subst (λ (ts : List TokenKind). IsClean z class ts) (one_blank_first played n)
    (clean_blanks z class n (played ++ Glyph blank ∷ [])
    (clean_more z class played (Glyph blank) clean (blank_has_none (λ c. none 0 c (omega arith))))
    (λ m c lt f. none (suc m) c (omega arith)
    (subst (λ (ts : List TokenKind). HasPrintFault z class ts c) (one_blank_first played m) f)))
  where
    blank_has_none : ((c : Cause) → ¬ HasPrintFault z class (then_blanks played 0) c) → (c : Cause) →
        ¬ HasFault z class played (Glyph blank) c
    blank_has_none none c (inl f) = f
    blank_has_none none c (inr f) = none c
        (subst (λ (ts : List TokenKind). HasPrintFault z class ts c) (sym (append-nil played)) f)

-- and each of its tokens prints a byte if anything
pub blanks_print : (played : List TokenKind) (n : ℕ) → All PrintsByte played → All PrintsByte (then_blanks played n)
blanks_print played n all =
    All-append PrintsByte played (replicate n (Glyph blank)) all (All-replicate PrintsByte n (Glyph blank) (lit< tt))
