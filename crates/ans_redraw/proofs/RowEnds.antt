-- The texts of what stands before and after a row, as they are given.
use Rattle.std.proofs.Common.{◌≡◌, ℕ, ◌-◌, ◌/◌, ◌%◌, ◌<◌, Bool, true, false, refl, ap, sym, ◌∙◌, arith}
use Rattle.std.proofs.Common.{List, [], ◌∷◌, ◌++◌, codes, replicate, append-nil}
use Rattle.std.specs.Prelude.{decimal, nat_le}
use Rattle.std.specs.Fmt.{digits}
use Rattle.std.proofs.lemmas.Bool.{ne_eqb}
use Rattle.std.proofs.lemmas.Bool.Decides.{nat_tests}
use Rattle.ans_model.specs.Bytes.{escape, bracket}
use Rattle.ans_redraw.specs.Form.{black, down_and_up, down, downward, row_place, line_end, before_row, after_row, texts}
use Rattle.ans_redraw.proofs.WayTexts.{texts_both}

-- before a row
pub before_opened : (opens : Bool) (a : ℕ) → opens ≡ true
    → texts (black a) ++ 0x0A ∷ escape ∷ codes "[A" ≡ texts (before_row opens a)
before_opened true a e = sym (texts_both (black a) down_and_up)
before_opened false a e = absurd (let no : ⊥ = cc in no)

-- down
pub most_down : (down 255).text ≡ escape ∷ codes "[255B"
unfolding digits
most_down = refl

pub downward_more : (n m : ℕ) → m ≡ n % 255 → (m ≡ 0 → ⊥)
    → texts (replicate (n / 255) (down 255)) ++ escape ∷ bracket ∷ (decimal m ++ 0x42 ∷ []) ≡ texts (downward n)
downward_more n m is some =
    let more : downward n ≡ replicate (n / 255) (down 255) ++ down m ∷ [] = rw (sym is, ne_eqb m 0 some) refl in
    ap (λ (v : List ℕ). texts (replicate (n / 255) (down 255)) ++ v)
    (sym (append-nil (escape ∷ bracket ∷ (decimal m ++ 0x42 ∷ []))))
    ∙ sym (texts_both (replicate (n / 255) (down 255)) (down m ∷ [])) ∙ ap texts (sym more)

-- the place of a row
pub far_place : (r : ℕ) → 255 < r → (escape ∷ codes "[H") ++ texts (downward (r - 1)) ≡ texts (row_place r)
far_place r many =
    let far : nat_le r 255 ≡ false = grind (arith, nat_tests) in
    rw far refl

-- after a row
module _ (opens follows : Bool) (r a : ℕ) where
  pub after_closed : opens ≡ false → follows ≡ true
      → texts (black a) ++ 0x0D ∷ 0x0A ∷ [] ≡ texts (after_row opens follows r a)
  after_closed e f = sym (texts_both (black a) line_end) ∙ rw (e, f) refl
