-- From what passes nothing is taken out.
use Rattle.std.proofs.Common.{◌≡◌, inl, inr, ℕ, suc, Bool, true, false, refl, sym, ap, subst, ◌∙◌, arith}
use Rattle.std.proofs.Common.{List, [], ◌∷◌, ◌++◌, length, take, drop, append_assoc, Option, Some, None}
use Rattle.std.specs.Prelude.{slice_get, slice_index, ◌&&◌, ◌-◌, ◌==◌, ◌⊎◌, nat_le, if◌then◌else◌}
use Rattle.std.specs.List.{AllZip, concat, list_all}
use Rattle.std.proofs.lemmas.Bool.{and_parts, cases_lt}
use Rattle.std.proofs.lemmas.List.{get_or_past}
use Rattle.std.proofs.Math.Seq.{take-length}
use Rattle.ans_model.specs.Screen.StartClass.{all_known}
use Rattle.ans_model.specs.Screen.State.{Size}
use Rattle.ans_model.specs.Sequence.TokenKind.{TokenKind, Mode, Keys, Ask}
use Rattle.ans_model.specs.Sequence.Reads.{SpellsToken}
use Rattle.ans_model.specs.Verdict.Good.{GoodWith, IsGood, Picture}
use Rattle.ans_model.specs.Verdict.TokenFault.{HasStaticFault}
use Rattle.ans_model.specs.declared.fault.Cause.{Cause}
use Rattle.ans_model.specs.declared.fault.Cause.TheVariants.{KeyReassigned, ScreenMode, ReportAsked}
use Rattle.ans_model.specs.declared.start.Start.{Start}
use Rattle.ans_model.proofs.Reading.{one_token_in_front, token_nonempty}
use Rattle.ans_forms.specs.Unwanted.{BeginsStaying, GoesFirst, before_after, before_with, prints, stays}
use Rattle.ans_forms.specs.declared.kinds.Before.{Before}
use Rattle.ans_forms.specs.declared.kinds.Unwanted.{Unwanted}
use Rattle.ans_forms.proofs.HereLemmas.{nothing_goes}
use Rattle.ans_mend.proofs.SequencesLeft.{leaves_within}
use Rattle.ans_mend.specs.LastEnds.{LeavesMost, LeavesOutEnds, is_line_end, most_sequences}
use Rattle.ans_mend.specs.TakingOut.{Gone, TakesOut}

-- ---- tokens

-- no token of these has a static fault
abbrev NoneStatic : Size → List TokenKind → Type 0
NoneStatic z tokens = (k : ℕ) (t : TokenKind) (cause : Cause) → slice_get tokens k ≡ Some t → ¬ HasStaticFault z t cause

one_stays : (z : Size) (t : TokenKind) → ((cause : Cause) → ¬ HasStaticFault z t cause) → stays t ≡ true
one_stays z Mode none = absurd (none ScreenMode tt)
one_stays z Keys none = absurd (none KeyReassigned tt)
one_stays z Ask none = absurd (none ReportAsked tt)
one_stays z t none = refl

-- so all of them stay
all_stay : (z : Size) (tokens : List TokenKind) → NoneStatic z tokens → list_all stays tokens ≡ true
all_stay z [] none = refl
all_stay z (t ∷ tokens) none =
    let here : stays t ≡ true = one_stays z t (λ cause. none 0 t cause refl) in
    let later : list_all stays tokens ≡ true = all_stay z tokens (λ k u cause at. none (suc k) u cause at) in
    rw here later

-- behind some of the tokens stands another one that stays, or nothing
stays_behind : (ts us : List TokenKind) (xs zs : List (List ℕ)) (left : List ℕ) → AllZip SpellsToken ts xs
    → list_all stays ts ≡ true → AllZip SpellsToken us zs → concat xs ≡ concat zs ++ left
    → (left ≡ []) ⊎ BeginsStaying left
stays_behind [] [] [] [] left h stay g e = inl (sym e)
stays_behind (t ∷ ts) [] (a ∷ xs) [] left h stay g e =
    inr (record {
      token = t;
      text = a;
      rest = concat xs;
      whole = sym e;
      spelled = h.0;
      stays = (and_parts (stays t) (list_all stays ts) stay).0;
    })
stays_behind [] (u ∷ us) [] (b ∷ zs) left h stay g e =
    absurd (token_nonempty u b (concat zs ++ left) g.0 (sym (e ∙ append_assoc b (concat zs) left)))
stays_behind (t ∷ ts) (u ∷ us) (a ∷ xs) (b ∷ zs) left h stay g e =
    let same = one_token_in_front t u a b (concat xs) (concat zs ++ left) h.0 g.0
    (e ∙ append_assoc b (concat zs) left) in
    stays_behind ts us xs zs left h.1 (and_parts (stays t) (list_all stays ts) stay).1 g.1 same.2
stays_behind [] us (a ∷ xs) zs left h stay g e = absurd h
stays_behind (t ∷ ts) us [] zs left h stay g e = absurd h
stays_behind ts [] xs (b ∷ zs) left h stay g e = absurd g
stays_behind ts (u ∷ us) xs [] left h stay g e = absurd g

module _ (z : Size) (class : Start) (content : List ℕ) (picture : Picture)
    (good : GoodWith z class content picture) where
  none_goes_first : (before after : Before) (kept text rest : List ℕ) (kind : Unwanted)
      → GoesFirst before content kept kind text rest after → ⊥
  none_goes_first before after kept text rest kind first =
      let behind = stays_behind good.tokens first.tokens good.reads.0 first.texts (text ++ rest) good.reads.1.each
      (all_stay z good.tokens good.plays.no_static_fault) first.all_stay.each
      (sym good.reads.1.whole ∙ first.whole ∙ ap (λ (v : List ℕ). v ++ (text ++ rest)) first.kept_is) in
      elim behind [
        | inl none ↦
            nothing_goes (before_after before first.tokens) kind text rest (sym none) first.of_kind
        | inr begins ↦ first.refused begins
      ]

  -- and what comes before the end comes after tokens that stay
  pub nothing_gone : (before : Before) (from : ℕ) (gone : List Gone) (left : List ℕ) (end : Before)
      → TakesOut before from gone content left end
      → (gone ≡ []) × (left ≡ content) × (tokens : List TokenKind) × (end ≡ before_after before tokens)
  nothing_gone before from [] left end takes = (refl, takes.1, takes.0.nothing.tokens, takes.0.end_is)
  nothing_gone before from (g ∷ more) left end (kept, rest, later, after, first, place, is, takes) =
      absurd (none_goes_first before after kept g.text rest g.kind first)

-- ---- the switch for bright backgrounds

-- where it was not taken out, it says nothing
pub says_nothing : (tokens : List TokenKind) (before : Before) → before.switch ≡ None → before.bright ≡ None
    → (before_after before tokens).bright ≡ None
says_nothing [] before none dark = dark
says_nothing (t ∷ tokens) before none dark =
    says_nothing tokens (before_with before t) none (go (prints t && nat_le 0x80 before.attribute))
  where
    go : (bright : Bool) → ◌≡◌ {A = Option Bool} (if bright then before.switch else before.bright) None
    go true = none
    go false = dark

-- ---- line ends

-- all of it leaves out no line end
whole_leaves : (bytes : List ℕ) → LeavesOutEnds bytes (length bytes)
whole_leaves bytes = record {
  within = omega arith;
  ends = ap (list_all is_line_end) (none_behind bytes);
  whole = go (slice_index bytes (length bytes - 1) == 0x0D)
      (ap (λ (b : ℕ). b == 0x0A) (get_or_past bytes (length bytes) 0 (omega arith)));
}
  where
    none_behind : (xs : List ℕ) → drop (length xs) xs ≡ []
    none_behind [] = refl
    none_behind (x ∷ xs) = none_behind xs

    go : (a : Bool) {b : Bool} → b ≡ false → (a && b) ≡ false
    go true h = h
    go false h = refl

-- where the whole passes, the whole stays
pub all_left : (z : Size) (content : List ℕ) (count : ℕ) → IsGood z all_known content
    → LeavesMost most_sequences z content count → take count content ≡ content
all_left z content count good leaves = elim (cases_lt count (length content)) [
  | inl fewer ↦
      absurd (leaves.most (length content) fewer (inl (whole_leaves content))
      (subst (IsGood z all_known) (sym (take-length content)) good))
  | inr all ↦
      let within = leaves_within most_sequences content count leaves.leaves in
      let same : count ≡ length content = omega (arith, all, within) in
      ap (λ (n : ℕ). take n content) same ∙ take-length content
]
