-- The summed bytes tell the size and the picture.
use Rattle.std.proofs.Common.{◌≡◌, ℕ, ◌<◌, ◌^◌, ◌≤◌, List, [], ◌∷◌, ◌++◌, codes, decimal, refl, ap, sym, subst, ◌∙◌}
use Rattle.std.proofs.Common.{append_assoc, arith, lit≤}
use Rattle.std.proofs.lemmas.Fmt.{decimal_injective, decimal_is_IsNumeral}
use Rattle.std.specs.Char.{digit_value}
use Rattle.std.specs.Str.Parse.{AllDigits}
use Rattle.ans_model.specs.Screen.State.{IsPlayableSize, Size}
use Rattle.ans_model.specs.Text.FaultText.{line_of}
use Rattle.ans_model.specs.Text.ReportText.{size_text}
use Rattle.ans_model.specs.Verdict.Good.{Picture}
use Rattle.ans_redraw.specs.Form.{form_bytes}
use Rattle.ans_picture_laws.specs.Drawable.{IsDrawable}
use Rattle.ans_picture_laws.proofs.Redrawn.{form_tells_the_picture}
use Rattle.ans_picture_laws.proofs.PrintedPictures.{good_pictures_are_drawable}
use Rattle.ans_sums.specs.Sums.{summed_bytes}
use Rattle.ans_sums_laws.specs.SumLaws.{SumsTellDrawings, SumsTellPictures}

-- what comes after the first byte
abbrev behind : List ℕ → List ℕ
behind [] = []
behind (x ∷ xs) = xs

-- the first byte
abbrev front : List ℕ → ℕ
front [] = 0
front (x ∷ xs) = x

-- digits up to a byte that is none, in equal texts
digits_same : (xs ys : List ℕ) (stop : ℕ) (rest more : List ℕ) → AllDigits 10 xs → AllDigits 10 ys
    → 10 ≤ digit_value stop → xs ++ stop ∷ rest ≡ ys ++ stop ∷ more → (xs ≡ ys) × (rest ≡ more)
digits_same [] [] stop rest more h g is e = (refl, ap behind e)
digits_same [] (y ∷ ys) stop rest more h g is e =
    absurd (let same : stop ≡ y = ap front e in omega (arith, rw same at is, g.0))
digits_same (x ∷ xs) [] stop rest more h g is e =
    absurd (let same : x ≡ stop = ap front e in omega (arith, rw same at h.0, is))
digits_same (x ∷ xs) (y ∷ ys) stop rest more h g is e =
    let same : x ≡ y = ap front e in
    let others = digits_same xs ys stop rest more h.1 g.1 is (ap behind e) in
    (ap (λ v. v ∷ xs) same ∙ ap (λ v. y ∷ v) others.0, others.1)

number_same : (m n stop : ℕ) (rest more : List ℕ) → m < 2 ^ 64 → n < 2 ^ 64 → 10 ≤ digit_value stop
    → decimal m ++ stop ∷ rest ≡ decimal n ++ stop ∷ more → (m ≡ n) × (rest ≡ more)
number_same m n stop rest more low high is e =
    let digits = digits_same (decimal m) (decimal n) stop rest more (decimal_is_IsNumeral m low).0.1
    (decimal_is_IsNumeral n high).0.1 is e in
    (decimal_injective m n low high digits.0, digits.1)

-- the texts of two numbers, and what comes after them
regrouped : (w l f : List ℕ) → ((w ++ 0x20 ∷ 0x78 ∷ 0x20 ∷ l) ++ 0x0A ∷ []) ++ f
    ≡ w ++ 0x20 ∷ 0x78 ∷ 0x20 ∷ (l ++ 0x0A ∷ f)
regrouped w l f =
    append_assoc (w ++ 0x20 ∷ 0x78 ∷ 0x20 ∷ l) (0x0A ∷ []) f ∙ append_assoc w (0x20 ∷ 0x78 ∷ 0x20 ∷ l) (0x0A ∷ f)

same_size : (y z : Size) → y.width ≡ z.width → y.lines ≡ z.lines → y ≡ z
same_size y z width lines =
    let P : ℕ → ℕ → Size = λ w l. record { width = w; lines = l } in
    ap (λ w. P w y.lines) width ∙ ap (λ l. P z.width l) lines

sizes_same : (y z : Size) (f g : List ℕ) → IsPlayableSize y → IsPlayableSize z
    → line_of (codes "size: " ++ size_text y) ++ f ≡ line_of (codes "size: " ++ size_text z) ++ g → (y ≡ z) × (f ≡ g)
sizes_same y z f g low high e =
    let after : List ℕ → List ℕ = λ v. behind (behind (behind (behind (behind (behind v))))) in
    let texts = sym (regrouped (decimal y.width) (decimal y.lines) f)
    ∙ (ap after e ∙ regrouped (decimal z.width) (decimal z.lines) g) in
    let width = number_same y.width z.width 0x20 _ _ (omega (arith, low.columns)) (omega (arith, high.columns))
    (lit≤ tt) texts in
    let lines = number_same y.lines z.lines 0x0A f g (omega (arith, low.lines)) (omega (arith, high.lines)) (lit≤ tt)
    (ap (λ v. behind (behind v)) width.1) in
    (same_size y z width.0 lines.0, lines.1)

pub sums_tell_pictures : SumsTellPictures
sums_tell_pictures y z p q low high h g = (told, λ e. ap (λ (v : Picture). summed_bytes v) e)
  where
    told : summed_bytes p ≡ summed_bytes q → p ≡ q
    told e =
        let P : Size → Type 0 = λ s. IsPlayableSize s in
        let parts = sizes_same p.size q.size (form_bytes p) (form_bytes q)
        (subst P (sym h.is_picture.size) low) (subst P (sym g.is_picture.size) high) e in
        let same : y ≡ z = sym h.is_picture.size ∙ (parts.0 ∙ g.is_picture.size) in
        let D : Size → Type 0 = λ s. IsDrawable s p in
        form_tells_the_picture z p q (subst D same h) g parts.1

pub sums_tell_drawings : SumsTellDrawings
sums_tell_drawings y z class other content more p q low high h unmarked g clean =
    sums_tell_pictures y z p q low high (good_pictures_are_drawable y class content p h unmarked)
    (good_pictures_are_drawable z other more q g clean)
