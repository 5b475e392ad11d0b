-- A fault that names a cell is the last one, at the end of the content.
use Rattle.std.proofs.Common.{◌≡◌, ◌≢◌, inl, inr, ℕ, List, None, length, refl, sym, ap, ◌∙◌, arith, subst}
use Rattle.ans_model.specs.Sequence.TokenKind.{TokenKind, Glyph, LineFeed, EraseLine, Tab}
use Rattle.ans_model.specs.File.Refusals.{fault_at}
use Rattle.ans_model.specs.Screen.State.{Size}
use Rattle.ans_model.specs.declared.fault.Cause.{Cause}
use Rattle.ans_model.specs.declared.fault.Cause.TheVariants.{UnknownCell}
use Rattle.ans_model.specs.declared.fault.Fault.{Fault}
use Rattle.ans_model.specs.declared.start.Start.{Start}
use Rattle.ans_model.specs.Verdict.TokenFault.{HasFault, HasFaultAfter}
use Rattle.ans_model.specs.Verdict.FirstFault.{IsFirstFault}
use Rattle.ans_model.specs.Verdict.LastFault.{IsLastFault, IsDeserved}
use Rattle.ans_model.proofs.OneAnswer.{refused_certain}
use Rattle.ans_model.proofs.OneCause.{static_is_certain}
use Rattle.ans_pens.specs.Evidence.{ShowsNamed}

module _ (z : Size) (class : Start) (row column : ℕ) where
  -- no token has such a fault
  no_token_names : (played : List TokenKind) (t : TokenKind) → ¬ HasFaultAfter z class played t (UnknownCell row column)
  no_token_names played (Glyph byte) f = f
  no_token_names played Tab f = f.fault
  no_token_names played EraseLine f = f
  no_token_names played LineFeed f = f
  no_token_names played _ f = f

  no_fault_names : (played : List TokenKind) (t : TokenKind) → ¬ HasFault z class played t (UnknownCell row column)
  no_fault_names played t (inl f) = static_is_certain z t (UnknownCell row column) f
  no_fault_names played t (inr f) = no_token_names played t f

  -- so it is no first fault
  first_names_none : (content : List ℕ) (fault : Fault) → fault.cause ≡ UnknownCell row column
      → ¬ IsFirstFault z class content fault
  first_names_none content fault is h = elim h.faulty [
    | inl b ↦ no_fault_names h.tokens b.token
        (subst (λ (c : Cause). HasFault z class h.tokens b.token c) is b.fault)
    | inr refused ↦
        let certain = refused_certain h.text fault.cause refused in
        rw is at certain
  ]

  pub named_last : (content : List ℕ) (fault : Fault) → fault.cause ≡ UnknownCell row column
      → IsDeserved z class content fault
      → IsLastFault z class content (fault_at (length content) (UnknownCell row column))
  named_last content fault is (inl h) = absurd (first_names_none content fault is h)
  named_last content fault is (inr (inl h)) =
      let cause = ap (λ (f : Fault). f.cause) h.fault_is in
      let no : ◌≡◌ {A = ℕ} 0 1 = cc in
      absurd (omega (arith, no))
  named_last content fault is (inr (inr h)) =
      let cause = sym (ap (λ (f : Fault). f.cause) h.fault_is) ∙ is in
      subst (IsLastFault z class content) (h.fault_is ∙ ap (λ (c : Cause). fault_at (length content) c) cause) (inr h)

-- another fault names no cell
pub none_named : (z : Size) (class : Start) (content : List ℕ) (cause : Cause)
    → ((row column : ℕ) → cause ≢ UnknownCell row column) → ShowsNamed z class content cause None
none_named z class content (UnknownCell row column) other = absurd (other row column refl)
none_named z class content _ other = tt
