-- Returns that were put before line feeds are not wanted again.
use Rattle.std.proofs.Common.{◌≡◌, ℕ, ◌+◌, Bool, true, false, refl, sym, ap, ap₂, ◌∙◌, arith, All}
use Rattle.std.proofs.Common.{List, [], ◌∷◌, ◌++◌}
use Rattle.std.specs.Prelude.{not, ◌&&◌, ◌||◌, is_some, Some, if◌then◌else◌}
use Rattle.std.specs.List.{list_any}
use Rattle.std.proofs.lemmas.Bool.{or_parts}
use Rattle.std.proofs.lemmas.List.Elements.{All-head, All-tail, All-cons}
use Rattle.std.proofs.lemmas.List.Folds.{list_any-append}
use Rattle.ans_model.specs.Bytes.{IsByte}
use Rattle.ans_model.specs.File.Layout.{is_end_mark}
use Rattle.ans_mend.specs.LineEnds.{first_bare, is_line_feed, is_return, needs_return, wants_returns}
use Rattle.ans_mend.specs.LineEnds.{with_returns}

-- ---- what is wanted, by tests

-- in bytes after this one, some line feed needs a return
abbrev pub has_bare : ℕ → List ℕ → Bool
has_bare last [] = false
has_bare last (b ∷ bytes) = needs_return last b || has_bare b bytes

some_bare : (last offset : ℕ) (bytes : List ℕ) → is_some (first_bare last offset bytes) ≡ has_bare last bytes
some_bare last offset [] = refl
some_bare last offset (b ∷ bytes) = go (needs_return last b) (some_bare b (offset + 1) bytes)
  where
    go : (needs : Bool) → is_some (first_bare b (offset + 1) bytes) ≡ has_bare b bytes
        → is_some (if needs then Some offset else first_bare b (offset + 1) bytes) ≡ (needs || has_bare b bytes)
    go true more = refl
    go false more = more

pub wants_by : (mixed : Bool) (bytes : List ℕ)
    → wants_returns mixed bytes ≡ ((mixed || not (list_any is_return bytes)) && has_bare 0 bytes)
wants_by mixed bytes =
    ap (λ (b : Bool). (mixed || not (list_any is_return bytes)) && b) (some_bare 0 0 bytes)

-- what comes after a byte that is no return may as well come first
pub bare_after : (last : ℕ) (bytes : List ℕ) → is_return last ≡ false → has_bare last bytes ≡ has_bare 0 bytes
bare_after last [] none = refl
bare_after last (b ∷ bytes) none =
    ap (λ (v : Bool). (is_line_feed b && not v) || has_bare b bytes) none

-- and so may what comes after some bytes that have neither
pub bare_behind : (last : ℕ) (front bytes : List ℕ) → is_return last ≡ false → list_any is_return front ≡ false
    → list_any is_line_feed front ≡ false → has_bare last (front ++ bytes) ≡ has_bare 0 bytes
bare_behind last [] bytes none no_return no_feed = bare_after last bytes none
bare_behind last (c ∷ front) bytes none no_return no_feed =
    let returns = or_parts (is_return c) (list_any is_return front) no_return in
    let feeds = or_parts (is_line_feed c) (list_any is_line_feed front) no_feed in
    ap (λ (v : Bool). (v && not (is_return last)) || has_bare c (front ++ bytes)) feeds.0
    ∙ bare_behind c front bytes returns.0 returns.1 feeds.1

-- bytes in front that have neither change nothing
pub wants_behind : (mixed : Bool) (front bytes : List ℕ) → list_any is_return front ≡ false
    → list_any is_line_feed front ≡ false → wants_returns mixed (front ++ bytes) ≡ wants_returns mixed bytes
wants_behind mixed front bytes no_return no_feed =
    wants_by mixed (front ++ bytes)
    ∙ ap₂ (λ (a b : Bool). (mixed || not a) && b)
    (list_any-append is_return front bytes ∙ ap (λ (v : Bool). v || list_any is_return bytes) no_return)
    (bare_behind 0 front bytes refl no_return no_feed)
    ∙ sym (wants_by mixed bytes)

and_none : (a : Bool) → (a && false) ≡ false
and_none true = refl
and_none false = refl

-- where they are put, none needs one
put_bare : (last : ℕ) (bytes : List ℕ) → has_bare last (with_returns last bytes) ≡ false
put_bare last [] = refl
put_bare last (b ∷ bytes) = go (needs_return last b) refl (put_bare b bytes)
  where
    go : (needs : Bool) → needs_return last b ≡ needs → has_bare b (with_returns b bytes) ≡ false
        → has_bare last ((if needs then 0x0D ∷ b ∷ [] else b ∷ []) ++ with_returns b bytes) ≡ false
    go true is more =
        ap₂ (λ (v w : Bool). v || w) (and_none (is_line_feed b)) more
    go false is more = ap₂ (λ (v w : Bool). v || w) is more

-- and then none is wanted
pub put_wants_none : (mixed : Bool) (bytes : List ℕ) → wants_returns mixed (with_returns 0 bytes) ≡ false
put_wants_none mixed bytes =
    wants_by mixed (with_returns 0 bytes)
    ∙ ap (λ (v : Bool). (mixed || not (list_any is_return (with_returns 0 bytes))) && v) (put_bare 0 bytes)
    ∙ and_none (mixed || not (list_any is_return (with_returns 0 bytes)))

-- ---- what is put is neither an end mark nor more than a byte

pub put_unmarked : (last : ℕ) (bytes : List ℕ) → list_any is_end_mark bytes ≡ false
    → list_any is_end_mark (with_returns last bytes) ≡ false
put_unmarked last [] h = refl
put_unmarked last (b ∷ bytes) h =
    go (needs_return last b) (or_parts (is_end_mark b) (list_any is_end_mark bytes) h) (put_unmarked b bytes)
  where
    go : (needs : Bool) → (is_end_mark b ≡ false) × (list_any is_end_mark bytes ≡ false)
        → (list_any is_end_mark bytes ≡ false → list_any is_end_mark (with_returns b bytes) ≡ false)
        → list_any is_end_mark ((if needs then 0x0D ∷ b ∷ [] else b ∷ []) ++ with_returns b bytes) ≡ false
    go true none more = rw (none.0) (more none.1)
    go false none more = rw (none.0) (more none.1)

pub put_bytes : (last : ℕ) (bytes : List ℕ) → All IsByte bytes → All IsByte (with_returns last bytes)
put_bytes last [] h = h
put_bytes last (b ∷ bytes) h = go (needs_return last b) (put_bytes b bytes (All-tail IsByte b bytes h))
  where
    go : (needs : Bool) → All IsByte (with_returns b bytes)
        → All IsByte ((if needs then 0x0D ∷ b ∷ [] else b ∷ []) ++ with_returns b bytes)
    go true more =
        All-cons IsByte 0x0D (b ∷ with_returns b bytes) (omega arith)
        (All-cons IsByte b (with_returns b bytes) (All-head IsByte b bytes h) more)
    go false more = All-cons IsByte b (with_returns b bytes) (All-head IsByte b bytes h) more
