-- One sequence goes first, or none does.
use Rattle.std.proofs.Common.{◌≡◌, ◌⊎◌, inl, inr, ℕ, true, List, [], ◌∷◌, ◌++◌, Option, Some, None}
use Rattle.std.proofs.Common.{refl, sym, ap, ap₂, ◌∙◌, subst, append_assoc}
use Rattle.std.specs.List.{AllZip, concat, list_all}
use Rattle.std.proofs.lemmas.Bool.{and_parts}
use Rattle.std.proofs.lemmas.List.{append-nil, append_cancel_right}
use Rattle.ans_model.specs.Sequence.TokenKind.{TokenKind, Keys}
use Rattle.ans_model.specs.Sequence.Reads.{SpellsToken}
use Rattle.ans_model.specs.Sequence.Spelling.{IsUnfinished}
use Rattle.ans_model.proofs.Reading.{one_token_in_front, unfinished_no_token}
use Rattle.ans_forms.specs.Unwanted.{AllStay, BeginsStaying, GoesFirst, IsOfKind, NothingGoes, NothingMore}
use Rattle.ans_forms.specs.Unwanted.{ReassignsNone}
use Rattle.ans_forms.specs.Unwanted.{before_after, before_behind, stays, unwanted_form}
use Rattle.ans_forms.specs.declared.kinds.Before.{Before}
use Rattle.ans_forms.specs.declared.kinds.Unwanted.{Unwanted}
use Rattle.ans_forms.specs.declared.kinds.Unwanted.TheVariants as unwanted

-- ---- tokens that stay

-- a token that stays, and what comes after it
staying : (t : TokenKind) (text rest bytes : List ℕ) → SpellsToken t text → stays t ≡ true → bytes ≡ text ++ rest
    → BeginsStaying bytes
staying t text rest bytes h stay e =
    record { token = t; text = text; rest = rest; whole = e; spelled = h; stays = stay }

one_run_by : (ts us : List TokenKind) (xs zs : List (List ℕ)) (left other : List ℕ) → AllZip SpellsToken ts xs
    → list_all stays ts ≡ true → AllZip SpellsToken us zs → list_all stays us ≡ true
    → concat xs ++ left ≡ concat zs ++ other → ¬ BeginsStaying left → ¬ BeginsStaying other
    → (ts ≡ us) × (xs ≡ zs) × (left ≡ other)
one_run_by [] [] [] [] left other h stay g stay_too e no_left no_other = (refl, refl, e)
one_run_by (t ∷ ts) [] (a ∷ xs) [] left other h stay g stay_too e no_left no_other =
    absurd (no_other (staying t a (concat xs ++ left) other h.0 (and_parts (stays t) (list_all stays ts) stay).0
    (sym e ∙ append_assoc a (concat xs) left)))
one_run_by [] (u ∷ us) [] (b ∷ zs) left other h stay g stay_too e no_left no_other =
    absurd (no_left (staying u b (concat zs ++ other) left g.0 (and_parts (stays u) (list_all stays us) stay_too).0
    (e ∙ append_assoc b (concat zs) other)))
one_run_by (t ∷ ts) (u ∷ us) (a ∷ xs) (b ∷ zs) left other h stay g stay_too e no_left no_other =
    let s = one_token_in_front t u a b (concat xs ++ left) (concat zs ++ other) h.0 g.0
    (sym (append_assoc a (concat xs) left) ∙ e ∙ append_assoc b (concat zs) other) in
    let r = one_run_by ts us xs zs left other h.1 (and_parts (stays t) (list_all stays ts) stay).1 g.1
    (and_parts (stays u) (list_all stays us) stay_too).1 s.2 no_left no_other in (
      ap₂ (λ (v : TokenKind) (w : List TokenKind). v ∷ w) s.0 r.0,
      ap₂ (λ (v : List ℕ) (w : List (List ℕ)). v ∷ w) s.1 r.1,
      r.2,
    )
one_run_by [] us (a ∷ xs) zs left other h stay g stay_too e no_left no_other = absurd h
one_run_by (t ∷ ts) us [] zs left other h stay g stay_too e no_left no_other = absurd h
one_run_by ts [] xs (b ∷ zs) left other h stay g stay_too e no_left no_other = absurd g
one_run_by ts (u ∷ us) xs [] left other h stay g stay_too e no_left no_other = absurd g

-- two runs of tokens that stay are the same, if none that stays comes after them
pub one_run : (ts us : List TokenKind) (xs zs : List (List ℕ)) (left other : List ℕ) → AllStay ts xs → AllStay us zs
    → concat xs ++ left ≡ concat zs ++ other → ¬ BeginsStaying left → ¬ BeginsStaying other
    → (ts ≡ us) × (xs ≡ zs) × (left ≡ other)
one_run ts us xs zs left other h g e no_left no_other =
    one_run_by ts us xs zs left other h.each h.stay g.each g.stay e no_left no_other

-- ---- kinds

-- a kind is known in one of three ways
record ByKeys (kind : Unwanted) (text : List ℕ) : Type 0 where
  kind_is : kind ≡ unwanted.ReassignedKey
  spelled : SpellsToken Keys text

record ByEnd (before : Before) (kind : Unwanted) (text rest : List ℕ) : Type 0 where
  kind_is : kind ≡ unwanted.Unfinished
  at_end : rest ≡ []
  unfinished : IsUnfinished text
  no_form : unwanted_form before text ≡ None

record ByForm (before : Before) (kind : Unwanted) (text rest : List ℕ) : Type 0 where
  no_keys : ReassignsNone (text ++ rest)
  form : unwanted_form before (text ++ rest) ≡ Some (kind, rest)

known_by : (before : Before) (kind : Unwanted) (text rest : List ℕ) → IsOfKind before kind text rest
    → ByKeys kind text ⊎ (ByEnd before kind text rest ⊎ ByForm before kind text rest)
known_by before unwanted.ReassignedKey text rest h = inl (record { kind_is = refl; spelled = h })
known_by before unwanted.Unfinished text rest h =
    inr (inl (record { kind_is = refl; at_end = h.0; unfinished = h.1; no_form = h.3 }))
known_by before kind text rest h = inr (inr (record { no_keys = h.0; form = h.1 }))

module _ (before : Before) (kind other : Unwanted) (text rest more left : List ℕ) where
  keys_not_end : ByKeys kind text → ByEnd before other more left → text ++ rest ≡ more ++ left → ⊥
  keys_not_end h g e =
      let whole : more ≡ text ++ rest =
      sym (append-nil more) ∙ ap (λ (v : List ℕ). more ++ v) (sym g.at_end) ∙ sym e in
      unfinished_no_token Keys text rest h.spelled (subst IsUnfinished whole g.unfinished)

  keys_not_form : ByKeys kind text → ByForm before other more left → text ++ rest ≡ more ++ left → ⊥
  keys_not_form h g e = g.no_keys text rest (sym e) h.spelled

  end_not_form : ByEnd before kind text rest → ByForm before other more left → text ++ rest ≡ more ++ left → ⊥
  end_not_form h g e =
      let whole : text ≡ more ++ left = sym (append-nil text) ∙ ap (λ (v : List ℕ). text ++ v) (sym h.at_end) ∙ e in
      let no : ◌≡◌ {A = Option (Unwanted × List ℕ)} None (Some (other, left)) =
      sym h.no_form ∙ ap (unwanted_form before) whole ∙ g.form in cc

-- what is found
abbrev kind_of_found : Unwanted → Option (Unwanted × List ℕ) → Unwanted
kind_of_found kind None = kind
kind_of_found kind (Some found) = found.0

abbrev rest_of_found : List ℕ → Option (Unwanted × List ℕ) → List ℕ
rest_of_found rest None = rest
rest_of_found rest (Some found) = found.1

module _ (before : Before) (kind other : Unwanted) (text rest more left : List ℕ)
    (e : text ++ rest ≡ more ++ left) where
  one_by_form : ByForm before kind text rest → ByForm before other more left
      → (kind ≡ other) × (text ≡ more) × (rest ≡ left)
  one_by_form h g =
      let found : ◌≡◌ {A = Option (Unwanted × List ℕ)} (Some (kind, rest)) (Some (other, left)) =
      sym h.form ∙ ap (unwanted_form before) e ∙ g.form in
      let same : rest ≡ left = ap (rest_of_found rest) found in (
        ap (kind_of_found kind) found,
        append_cancel_right text more left (ap (λ (v : List ℕ). text ++ v) (sym same) ∙ e),
        same,
      )

  one_by_end : ByEnd before kind text rest → ByEnd before other more left
      → (kind ≡ other) × (text ≡ more) × (rest ≡ left)
  one_by_end h g =
      let same : rest ≡ left = h.at_end ∙ sym g.at_end in (
        h.kind_is ∙ sym g.kind_is,
        append_cancel_right text more left (ap (λ (v : List ℕ). text ++ v) (sym same) ∙ e),
        same,
      )

  one_by_keys : ByKeys kind text → ByKeys other more → (kind ≡ other) × (text ≡ more) × (rest ≡ left)
  one_by_keys h g =
      let same = one_token_in_front Keys Keys text more rest left h.spelled g.spelled e in
      (h.kind_is ∙ sym g.kind_is, same.1, same.2)

-- one kind, one text and one rest at one place
pub one_of_kind : (before : Before) (kind kind' : Unwanted) (text text' rest rest' : List ℕ)
    → IsOfKind before kind text rest → IsOfKind before kind' text' rest' → text ++ rest ≡ text' ++ rest'
    → (kind ≡ kind') × (text ≡ text') × (rest ≡ rest')
one_of_kind before kind kind' text text' rest rest' h g e =
    elim (known_by before kind text rest h) [
      | inl keys ↦ elim (known_by before kind' text' rest' g) [
        | inl keys' ↦ one_by_keys before kind kind' text rest text' rest' e keys keys'
        | inr other ↦ elim other [
          | inl end' ↦ absurd (keys_not_end before kind kind' text rest text' rest' keys end' e)
          | inr form' ↦ absurd (keys_not_form before kind kind' text rest text' rest' keys form' e)
        ]
      ]
      | inr one ↦ elim one [
        | inl end ↦ elim (known_by before kind' text' rest' g) [
          | inl keys' ↦ absurd (keys_not_end before kind' kind text' rest' text rest keys' end (sym e))
          | inr other ↦ elim other [
            | inl end' ↦ one_by_end before kind kind' text rest text' rest' e end end'
            | inr form' ↦ absurd (end_not_form before kind kind' text rest text' rest' end form' e)
          ]
        ]
        | inr form ↦ elim (known_by before kind' text' rest' g) [
          | inl keys' ↦ absurd (keys_not_form before kind' kind text' rest' text rest keys' form (sym e))
          | inr other ↦ elim other [
            | inl end' ↦ absurd (end_not_form before kind' kind text' rest' text rest end' form (sym e))
            | inr form' ↦ one_by_form before kind kind' text rest text' rest' e form form'
          ]
        ]
      ]
    ]

-- ---- what goes first

module _ (before after after' : Before) (bytes kept kept' : List ℕ) (kind kind' : Unwanted)
    (text text' rest rest' : List ℕ) where
  pub one_goes_first : GoesFirst before bytes kept kind text rest after
      → GoesFirst before bytes kept' kind' text' rest' after'
      → (kept ≡ kept') × (kind ≡ kind') × (text ≡ text') × (rest ≡ rest') × (after ≡ after')
  one_goes_first h g =
      let e : concat h.texts ++ (text ++ rest) ≡ concat g.texts ++ (text' ++ rest') =
      ap (λ (v : List ℕ). v ++ (text ++ rest)) (sym h.kept_is) ∙ sym h.whole ∙ g.whole
      ∙ ap (λ (v : List ℕ). v ++ (text' ++ rest')) g.kept_is in
      let run = one_run h.tokens g.tokens h.texts g.texts (text ++ rest) (text' ++ rest') h.all_stay g.all_stay e
      h.refused g.refused in
      let here : before_after before h.tokens ≡ before_after before g.tokens = ap (before_after before) run.0 in
      let one = one_of_kind (before_after before g.tokens) kind kind' text text' rest rest'
      (subst (λ (b : Before). IsOfKind b kind text rest) here h.of_kind) g.of_kind run.2 in (
        h.kept_is ∙ ap concat run.1 ∙ sym g.kept_is,
        one.0,
        one.1,
        one.2,
        h.after_is ∙ ap₂ before_behind here one.0 ∙ sym g.after_is,
      )

-- it goes, or nothing does
module _ (before after : Before) (bytes kept : List ℕ) (kind : Unwanted) (text rest : List ℕ) where
  pub goes_or_not : GoesFirst before bytes kept kind text rest after → ¬ NothingGoes before bytes
  goes_or_not h none =
      let e : concat h.texts ++ (text ++ rest) ≡ concat none.texts ++ none.left =
      ap (λ (v : List ℕ). v ++ (text ++ rest)) (sym h.kept_is) ∙ sym h.whole ∙ none.whole in
      let run = one_run h.tokens none.tokens h.texts none.texts (text ++ rest) none.left h.all_stay none.all_stay e
      h.refused none.refused in
      none.none_goes kind text rest (sym run.2)
      (subst (λ (ts : List TokenKind). IsOfKind (before_after before ts) kind text rest) run.0 h.of_kind)

-- where nothing goes, one thing comes before the end
pub one_end : (before end end' : Before) (bytes : List ℕ) → NothingMore before bytes end
    → NothingMore before bytes end' → end ≡ end'
one_end before end end' bytes h g =
    let run = one_run h.nothing.tokens g.nothing.tokens h.nothing.texts g.nothing.texts h.nothing.left g.nothing.left
    h.nothing.all_stay g.nothing.all_stay (sym h.nothing.whole ∙ g.nothing.whole) h.nothing.refused
    g.nothing.refused in
    h.end_is ∙ ap (before_after before) run.0 ∙ sym g.end_is
