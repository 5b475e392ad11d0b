-- The bytes that good content prints.
use Rattle.std.proofs.Common.{◌≡◌, inl, inr, ℕ, Bool, true, false, ◌==◌, refl, ap, sym, ◌∙◌, subst}
use Rattle.std.proofs.Common.{List, [], ◌∷◌, ◌++◌}
use Rattle.std.specs.Prelude.{if◌then◌else◌, ◌||◌}
use Rattle.std.specs.List.{AllZip, AllByRecursion, concat, list_any}
use Rattle.std.proofs.lemmas.Bool.{eqb-false, or_parts}
use Rattle.std.proofs.lemmas.List.Folds.{list_any-append}
use Rattle.ans_model.specs.Bytes.{end_mark}
use Rattle.ans_model.specs.File.Layout.{is_end_mark}
use Rattle.ans_model.specs.Sequence.TokenKind.{TokenKind, Glyph, Bell, BackSpace, Tab, LineFeed, CarriageReturn}
use Rattle.ans_model.specs.Sequence.Reads.{kind_of_byte, SpellsToken}
use Rattle.ans_model.proofs.Reading.{means_well}
use Rattle.ans_picture_laws.specs.Drawable.{IsPrinted}

-- the byte that is a printed one is that byte
glyph_of_byte : (b c : ℕ) → kind_of_byte b ≡ Glyph c → b ≡ c
glyph_of_byte b c e = by_tests (b == 0x07) (b == 0x08) (b == 0x09) (b == 0x0A) (b == 0x0D) e
  where
    by_tests : (bell back tab feed return : Bool)
        → (if bell then Bell else if back then BackSpace else if tab then Tab else if feed then LineFeed
        else if return then CarriageReturn else Glyph b) ≡ Glyph c → b ≡ c
    by_tests true back tab feed return h = cc
    by_tests false true tab feed return h = cc
    by_tests false false true feed return h = cc
    by_tests false false false true return h = cc
    by_tests false false false false true h = cc
    by_tests false false false false false h = cc

-- what a token prints, is printed
abbrev pub PrintsPrinted : TokenKind → Type 0
PrintsPrinted (Glyph byte) = IsPrinted byte
PrintsPrinted _ = Unit {0}

first_unmarked : (b : ℕ) → list_any is_end_mark (b ∷ []) ≡ false → b ≡ end_mark → ⊥
first_unmarked b h = by_tests (b == end_mark) refl h
  where
    by_tests : (t : Bool) → (b == end_mark) ≡ t → (t || false) ≡ false → b ≡ end_mark → ⊥
    by_tests true e f = absurd (let no : ⊥ = cc in no)
    by_tests false e f = eqb-false b end_mark e

glyph_printed : (c : ℕ) (text : List ℕ) → SpellsToken (Glyph c) text → list_any is_end_mark text ≡ false → IsPrinted c
glyph_printed c text (inl h) unmarked =
    let same : h.byte ≡ c = glyph_of_byte h.byte c (sym h.means) in
    subst (λ (b : ℕ). IsPrinted b) same (record {
      is_byte = h.is_byte;
      not_escape = h.not_escape;
      not_end_mark = first_unmarked h.byte (rw h.whole at unmarked);
      means_itself = sym h.means ∙ ap (λ (b : ℕ). Glyph b) (sym same);
    })
glyph_printed c text (inr h) unmarked = absurd (rw h.means at (means_well h.raw))

token_printed : (t : TokenKind) (text : List ℕ) → SpellsToken t text → list_any is_end_mark text ≡ false
    → PrintsPrinted t
token_printed (Glyph c) text h unmarked = glyph_printed c text h unmarked
token_printed _ text h unmarked = tt

-- each of the tokens that are read from bytes without an end mark
unmarked_parts : (xs ys : List ℕ) → list_any is_end_mark (xs ++ ys) ≡ false
    → (list_any is_end_mark xs ≡ false) × (list_any is_end_mark ys ≡ false)
unmarked_parts xs ys h =
    or_parts (list_any is_end_mark xs) (list_any is_end_mark ys) (sym (list_any-append is_end_mark xs ys) ∙ h)

pub tokens_printed : (ts : List TokenKind) (xs : List (List ℕ)) → AllZip SpellsToken ts xs
    → list_any is_end_mark (concat xs) ≡ false → AllByRecursion PrintsPrinted ts
tokens_printed [] xs h unmarked = tt
tokens_printed (t ∷ ts) [] h unmarked = absurd h
tokens_printed (t ∷ ts) (x ∷ xs) h unmarked =
    let parts = unmarked_parts x (concat xs) unmarked in
    (token_printed t x h.0 parts.0, tokens_printed ts xs h.1 parts.1)
