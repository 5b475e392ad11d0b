-- What is printed or cleared first.
use Rattle.std.proofs.Common.{◌≡◌, ℕ, Bool, true, false, not, List, [], ◌∷◌, ◌++◌, length, take, refl, sym, ap, ap₂}
use Rattle.std.proofs.Common.{◌∙◌}
use Rattle.std.proofs.Common.{arith, subst, append_assoc, length-append, append-nil}
use Rattle.std.specs.Prelude.{Result, Ok, Err}
use Rattle.std.specs.List.{concat}
use Rattle.std.proofs.Math.Seq.{take-length}
use Rattle.ans_model.specs.Sequence.TokenKind.{TokenKind}
use Rattle.ans_model.specs.Sequence.Reads.{ReadsAs}
use Rattle.ans_model.specs.declared.fault.Fault.{Fault}
use Rattle.ans_players.specs.Names.{Names, are_both, names_after, paints, unnamed}
use Rattle.ans_players.specs.Situations.{Spelled, spelled}
use Rattle.ans_tokens.specs.Walk.{Front, WalksTo, front_with}
use Rattle.ans_tokens.proofs.Scanning.{split_reading}
use Rattle.ans_tokens.proofs.Walked.{never_refused, walked_all}
use Rattle.ans_kinds.proofs.KindsFound.{one, spelled_behind, spelled_more}
use Rattle.ans_kinds.specs.NamesShown.{shown_names}
use Rattle.ans_mend.specs.NamedColours.{begins_unnamed, both_named, names_at_print, takes_names}
use Rattle.ans_mend.specs.NameSearch.{HasLookedAtFirst, IsFirst}
use Rattle.ans_mend.specs.declared.name_search.First.{First}

module _ (first old : First) (front : Front) (t : TokenKind) (text behind : List ℕ)
    (h : HasLookedAtFirst first front true old) where
  abbrev xs : List Spelled
  xs = spelled front.tokens front.texts

  abbrev n : Names
  n = shown_names old.named

  looked_more : (new : First) (goes_on : Bool)
      → IsFirst goes_on new.unnamed (shown_names new.named) (xs ++ one t text ∷ [])
      → HasLookedAtFirst first (front_with front t text behind) goes_on new
  looked_more new goes_on looked = record {
    texts = let long = h.texts in
        omega (arith, long, length-append front.texts (text ∷ []), length-append front.tokens (t ∷ []));
    looked = subst (λ (v : List Spelled). IsFirst goes_on new.unnamed (shown_names new.named) v)
        (sym (spelled_more front.tokens t front.texts text h.texts)) looked;
  }

  goes : (more : List Spelled)
      → names_at_print unnamed ((xs ++ one t text ∷ []) ++ more) ≡ names_at_print n (one t text ∷ more)
  goes more =
      ap (names_at_print unnamed) (append_assoc xs (one t text ∷ []) more) ∙ h.looked.1 (one t text ∷ more)

  pub first_print : (new : First) → paints t ≡ true → new.unnamed ≡ not (are_both n)
      → HasLookedAtFirst first (front_with front t text behind) false new
  first_print new prints is =
      looked_more new false (λ more.
      let now : names_at_print n (one t text ∷ more) ≡ n = rw prints refl in
      ap (λ (v : Names). not (are_both v)) (goes more ∙ now) ∙ sym is)

  pub first_taking : (new : First) → paints t ≡ false → takes_names t ≡ true → new.unnamed ≡ old.unnamed
      → HasLookedAtFirst first (front_with front t text behind) false new
  first_taking new other takes is =
      looked_more new false (λ more.
      let now : names_at_print n (one t text ∷ more) ≡ both_named = rw (other, takes) refl in
      ap (λ (v : Names). not (are_both v)) (goes more ∙ now) ∙ sym (is ∙ h.looked.0))

  pub first_other : (new : First) → paints t ≡ false → takes_names t ≡ false → new.unnamed ≡ old.unnamed
      → shown_names new.named ≡ names_after n t
      → HasLookedAtFirst first (front_with front t text behind) true new
  first_other new other keeps is names =
      looked_more new true (
        is ∙ h.looked.0,
        λ more.
            let now : names_at_print n (one t text ∷ more) ≡ names_at_print (names_after n t) more =
            rw (other, keeps) refl in
            goes more ∙ now ∙ ap (λ (v : Names). names_at_print v more) (sym names),
      )

-- ---- the whole
pub first_told : (content : List ℕ) (first now : First) (result : Result Bool Fault)
    → WalksTo (λ first front now goes_on. HasLookedAtFirst first front goes_on now) content (length content) first now
    result
    → (tokens : List TokenKind) (texts : List (List ℕ)) → ReadsAs content tokens texts
    → now.unnamed ≡ begins_unnamed (spelled tokens texts)
first_told content first now (Ok true) h tokens texts reads =
    let same : ReadsAs (take (length content) content) tokens texts = rw (take-length content) reads in
    let all = walked_all _ content (length content) first now tokens texts same h in
    all.looked.0
    ∙ ap (λ (v : Names). not (are_both v))
    (sym (ap (names_at_print unnamed) (sym (append-nil (spelled tokens texts))) ∙ all.looked.1 []))
first_told content first now (Ok false) (left, h) tokens texts reads =
    let whole : content ≡ concat h.front.texts ++ left =
    sym (take-length content) ∙ h.whole ∙ ap (λ (v : List ℕ). v ++ left) h.reads.whole in
    let s = split_reading h.front.tokens tokens h.front.texts texts left h.reads.each reads.each
    (sym whole ∙ reads.whole) in
    let all : spelled tokens texts ≡ spelled h.front.tokens h.front.texts ++ spelled s.later s.later_texts =
    ap₂ spelled s.tokens_are s.texts_are
    ∙ spelled_behind h.front.tokens s.later h.front.texts s.later_texts h.over.texts in
    sym (ap begins_unnamed all ∙ h.over.looked (spelled s.later s.later_texts))
first_told content first now (Err fault) h tokens texts reads =
    absurd (never_refused _ content (length content) first now fault tokens h
    (texts, rw (take-length content) reads))
