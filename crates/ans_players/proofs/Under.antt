-- A play under another: no part of it is greater, and its sync is as sure at least.
use Rattle.std.proofs.Common.{◌≡◌, ◌⊎◌, inl, inr, ℕ, ◌+◌, ◌≤◌, Bool, true, false, refl, ap, ◌∙◌}
use Rattle.std.proofs.Common.{sym, subst, List, [], ◌∷◌, Some, None, Option, arith}
use Rattle.std.proofs.lemmas.Bool.{and_parts, and_from, cases_Bool, eqb-true, eq-eqb, lt-ltb, ltb-false, le-ltb}
use Rattle.std.proofs.lemmas.Bool.{ltb-true}
use Rattle.std.proofs.lemmas.Nat.Bits.{bit_at_and, bit_at_or, same_from_bits}
use Rattle.std.specs.Int.{bit_at}
use Rattle.std.specs.Prelude.{if◌then◌else◌, IsTrue, not, nat_lt, ◌&&◌, ◌==◌, bit_and}
use Rattle.std.specs.List.{list_all}
use Rattle.ans_model.specs.Sequence.TokenKind.{TokenKind, Glyph, Bell, BackSpace, LineFeed, CarriageReturn, Tab, Up}
use Rattle.ans_model.specs.Sequence.TokenKind.{Down, Forward, Backward, Place, Clear, EraseLine, Save, Restore, Colours}
use Rattle.ans_model.specs.Sequence.TokenKind.{Wrap}
use Rattle.ans_model.specs.Screen.Attribute.{Rendition, attribute_after, attribute_after_all, attribute_by}
use Rattle.ans_model.specs.Screen.Attribute.{rendition_of}
use Rattle.ans_model.specs.Screen.Attribute.{renditions}
use Rattle.ans_model.specs.Screen.State.{Size}
use Rattle.ans_model.specs.declared.cell.Position.{Position}
use Rattle.ans_players.specs.declared.difference.Difference.{Difference}
use Rattle.ans_players.specs.declared.difference.Difference.TheVariants.{HomeOnClear, SavePlaceOnly, ClearInColour}
use Rattle.ans_players.specs.declared.difference.Difference.TheVariants.{DosColours}
use Rattle.ans_players.specs.declared.difference.Difference.TheVariants.{StopsAtEdge}
use Rattle.ans_players.specs.Sync.{Sync, InSync, AfterFeed, AfterReturn, OutOfSync, Stand, stand_after, is_same_for_all}
use Rattle.ans_players.specs.Sync.{is_home}
use Rattle.ans_players.specs.Players.{StaysAbove}
use Rattle.ans_players.specs.Names.{Names, names_after}
use Rattle.ans_model.specs.Sequence.Omitted.{omits}
use Rattle.ans_players.specs.Situations.{Spelled, is_agreed, is_grey, kind_if, name_kinds, spelling_kinds}
use Rattle.ans_players.specs.Situations.{token_kinds}
use Rattle.ans_players.proofs.Afters.{cursor_after, saved_after, attribute_after_token, wrap_after, sync_of}
use Rattle.ans_players.proofs.Afters.{sync_after_return, next, parts_after, sync_is}
use Rattle.ans_players.proofs.OneOfTwo.{sync_kinds, parts_agreed, from_parts}

-- ---- the parts
-- no row or column is greater
abbrev pub IsBelow : Position → Position → Type 0
IsBelow p q = (p.row ≤ q.row) × (p.column ≤ q.column)

below_itself : (p q : Position) → p ≡ q → IsBelow p q
below_itself p q e = subst (λ (v : Position). IsBelow p v) e (omega arith, omega arith)

-- no bit is greater
abbrev pub HasBitsBelow : ℕ → ℕ → Type 0
HasBitsBelow a b = (i : ℕ) → bit_at a i ≤ bit_at b i

-- the sync after a line end at which not all do the same
abbrev IsLineEnd : Sync → Type 0
IsLineEnd AfterFeed = Unit {0}
IsLineEnd AfterReturn = Unit {0}
IsLineEnd g = ⊥

-- the same sync, or in sync; and then in the first column where the other is behind a line end
abbrev pub IsSurer : Sync → ℕ → Sync → Type 0
IsSurer g column k = (g ≡ k) ⊎ ((g ≡ InSync) × (IsLineEnd k → column ≡ 0))

pub record IsUnder (h k : Stand) : Type 0 where
  pub cursor : IsBelow h.state.cursor k.state.cursor
  pub saved : IsBelow h.state.saved k.state.saved
  pub attribute : HasBitsBelow h.state.attribute k.state.attribute
  pub wrap : h.state.wrap ≡ k.state.wrap
  pub sync : IsSurer h.sync h.state.cursor.column k.sync
  pub names : h.names ≡ k.names

-- what is printed is printed at one place
abbrev pub IsPrintedAtOne : TokenKind → Position → Position → Type 0
IsPrintedAtOne (Glyph byte) p q = p ≡ q
IsPrintedAtOne Tab p q = p ≡ q
IsPrintedAtOne t p q = Unit {0}

-- ---- after a token
module _ (z : Size) where
  cursor_below : (t : TokenKind) (p q saved other : Position) (wrap : Bool) → IsPrintedAtOne t p q → IsBelow p q
      → IsBelow saved other → IsBelow (cursor_after z t p saved wrap) (cursor_after z t q other wrap)
  cursor_below (Glyph byte) p q saved other wrap one b there =
      below_itself _ _ (ap (λ (v : Position). next z wrap v) one)
  cursor_below Tab p q saved other wrap one b there =
      below_itself _ _ (ap (λ (v : Position). cursor_after z Tab v saved wrap) one)
  cursor_below LineFeed p q saved other wrap one b there = (omega (arith, b.0), b.1)
  cursor_below Clear p q saved other wrap one b there = (omega arith, omega arith)
  cursor_below Restore p q saved other wrap one b there = there
  cursor_below (Up n) p q saved other wrap one b there = (omega (arith, b.0), b.1)
  cursor_below (Down n) p q saved other wrap one b there = (omega (arith, b.0), b.1)
  cursor_below (Forward n) p q saved other wrap one b there = (b.0, omega (arith, b.1))
  cursor_below (Backward n) p q saved other wrap one b there = (b.0, omega (arith, b.1))
  cursor_below (Place row column) p q saved other wrap one b there = (omega arith, omega arith)
  cursor_below BackSpace p q saved other wrap one b there = (b.0, omega (arith, b.1))
  cursor_below CarriageReturn p q saved other wrap one b there = (b.0, omega arith)
  cursor_below t p q saved other wrap one b there = b

  saved_below : (t : TokenKind) (p q saved other : Position) → IsBelow p q → IsBelow saved other
      → IsBelow (saved_after t p saved) (saved_after t q other)
  saved_below Save p q saved other b there = b
  saved_below t p q saved other b there = there

  -- ---- sync
  -- a test of the first column
  by_column : (g : Sync) (p q : Position) (column : ℕ) → IsBelow p q → ((p.column == 0) ≡ true → column ≡ 0)
      → IsSurer (if p.column == 0 then InSync else g) column (if q.column == 0 then InSync else g)
  by_column g p q column b first = go (p.column == 0) refl
    where
      go : (c : Bool) → (p.column == 0) ≡ c
          → IsSurer (if c then InSync else g) column (if q.column == 0 then InSync else g)
      go true e = inr (refl, λ line_end. first e)
      go false e = inl (sym (ap (λ (d : Bool). if d then InSync else g) (not_first e)))
        where
          not_first : (p.column == 0) ≡ false → (q.column == 0) ≡ false
          not_first e = elim (cases_Bool (q.column == 0)) [
            | inl at_first ↦
                let zero_there : q.column ≡ 0 = eqb-true q.column 0 at_first in
                let zero_here : p.column ≡ 0 = omega (arith, b.1, zero_there) in
                let no : true ≡ false = sym (eq-eqb p.column 0 zero_here) ∙ e in
                absurd (let none : ⊥ = cc in none)
            | inr other ↦ other
          ]

  home_below : (p q : Position) → IsBelow p q → is_home q ≡ true → is_home p ≡ true
  home_below p q b e =
      let parts = and_parts (q.row == 0) (q.column == 0) e in
      and_from _ _ (eq-eqb p.row 0 (omega (arith, b.0, eqb-true q.row 0 parts.0)))
      (eq-eqb p.column 0 (omega (arith, b.1, eqb-true q.column 0 parts.1)))

  no_line_end : (b : Bool) (kind : Difference) → IsLineEnd (if b then InSync else OutOfSync kind) → ⊥
  no_line_end true kind h = h
  no_line_end false kind h = h

  by_home : (kind : Difference) (p q : Position) (column : ℕ) → IsBelow p q
      → IsSurer (if is_home p then InSync else OutOfSync kind) column (if is_home q then InSync else OutOfSync kind)
  by_home kind p q column b = elim (cases_Bool (is_home p)) [
    | inl home ↦ inr (
      ap (λ (d : Bool). if d then InSync else OutOfSync kind) home,
      λ line_end. absurd (no_line_end (is_home q) kind line_end),
    )
    | inr away ↦ inl (ap (λ (d : Bool). if d then InSync else OutOfSync kind) (away ∙ sym (away_too away)))
  ]
    where
      away_too : is_home p ≡ false → is_home q ≡ false
      away_too e = elim (cases_Bool (is_home q)) [
        | inl home ↦ let no : true ≡ false = sym (home_below p q b home) ∙ e in absurd (let none : ⊥ = cc in none)
        | inr other ↦ other
      ]

  -- behind a return
  return_surer : (g k : Sync) (p q : Position) → IsBelow p q → IsSurer g p.column k
      → IsSurer (sync_after_return g p) 0 (sync_after_return k q)
  return_surer g k p q b (inl e) = subst (λ (v : Sync). IsSurer (sync_after_return v p) 0 (sync_after_return k q))
      (sym e) (same k)
    where
      same : (v : Sync) → IsSurer (sync_after_return v p) 0 (sync_after_return v q)
      same AfterFeed = inl refl
      same AfterReturn = inl refl
      same v = by_column AfterReturn p q 0 b (λ e. refl)
  return_surer g k p q b (inr h) = subst (λ (v : Sync). IsSurer (sync_after_return v p) 0 (sync_after_return k q))
      (sym h.0) (in_sync k h.1)
    where
      in_sync : (v : Sync) → (IsLineEnd v → p.column ≡ 0)
          → IsSurer (sync_after_return InSync p) 0 (sync_after_return v q)
      in_sync AfterFeed first =
          inl (ap (λ (d : Bool). if d then InSync else AfterReturn) (eq-eqb p.column 0 (first tt)))
      in_sync AfterReturn first =
          inr (ap (λ (d : Bool). if d then InSync else AfterReturn) (eq-eqb p.column 0 (first tt)), λ line_end. refl)
      in_sync v first = by_column AfterReturn p q 0 b (λ e. refl)

  sync_surer : (t : TokenKind) (g k : Sync) (p q saved : Position) (wrap : Bool) → IsPrintedAtOne t p q → IsBelow p q
      → IsSurer g p.column k
      → IsSurer (sync_of z t g p wrap) (cursor_after z t p saved wrap).column (sync_of z t k q wrap)
  sync_surer (Glyph byte) g k p q saved wrap one b h =
      inl (ap (λ (v : Position). sync_of z (Glyph byte) InSync v wrap) one)
  sync_surer Tab g k p q saved wrap one b h = inl (ap (λ (v : Position). sync_of z Tab InSync v wrap) one)
  sync_surer (Colours parameters) g k p q saved wrap one b h = h
  sync_surer Bell g k p q saved wrap one b h = h
  sync_surer CarriageReturn g k p q saved wrap one b h = return_surer g k p q b h
  sync_surer LineFeed g k p q saved wrap one b h =
      by_column AfterFeed p q p.column b (λ e. eqb-true p.column 0 e)
  sync_surer Clear g k p q saved wrap one b h = by_home HomeOnClear p q 0 b
  sync_surer Save g k p q saved wrap one b h = by_home SavePlaceOnly p q p.column b
  sync_surer t g k p q saved wrap one b h = inl refl

-- ---- attributes
bits_by : (r : Option Rendition) (a b : ℕ) → HasBitsBelow a b → HasBitsBelow (attribute_by r a) (attribute_by r b)
bits_by None a b below i = below i
bits_by (Some r) a b below i =
    rw (
      bit_at_or (bit_and a r.mask) r.set i,
      bit_at_or (bit_and b r.mask) r.set i,
      bit_at_and a r.mask i,
      bit_at_and b r.mask i,
    ) (omega (arith, below i))

bits_after : (ns : List ℕ) (a b : ℕ) → HasBitsBelow a b
    → HasBitsBelow (attribute_after_all a ns) (attribute_after_all b ns)
bits_after [] a b below = below
bits_after (n ∷ ns) a b below =
    bits_after ns (attribute_after a n) (attribute_after b n) (bits_by (rendition_of renditions n) a b below)

pub token_bits : (t : TokenKind) (a b : ℕ) → HasBitsBelow a b
    → HasBitsBelow (attribute_after_token t a) (attribute_after_token t b)
token_bits (Colours parameters) a b below = bits_after parameters a b below
token_bits t a b below = below

-- what is white on black at both is so between them
grey_between : (a b c : ℕ) → HasBitsBelow a b → HasBitsBelow b c → (a == 0x07) ≡ true → (c == 0x07) ≡ true
    → (b == 0x07) ≡ true
grey_between a b c low high e f =
    eq-eqb b 0x07 (same_from_bits b 0x07 (λ i.
    let at_low : bit_at a i ≡ bit_at 0x07 i = ap (λ (v : ℕ). bit_at v i) (eqb-true a 0x07 e) in
    let at_high : bit_at c i ≡ bit_at 0x07 i = ap (λ (v : ℕ). bit_at v i) (eqb-true c 0x07 f) in
    omega (arith, low i, high i, at_low, at_high)))

-- ---- after a token
pub wrap_same : (t : TokenKind) (v w : Bool) → v ≡ w → wrap_after t v ≡ wrap_after t w
wrap_same (Wrap on) v w e = refl
wrap_same t v w e = e

module _ (z : Size) where
  pub under_after : (t : TokenKind) (h k : Stand) → StaysAbove z h.state t → StaysAbove z k.state t
      → IsPrintedAtOne t h.state.cursor k.state.cursor → IsUnder h k → IsUnder (stand_after z h t) (stand_after z k t)
  under_after t h k above_h above_k one under =
      let of_h = parts_after z h.state t above_h in
      let of_k = parts_after z k.state t above_k in
      let cursors : IsBelow (cursor_after z t h.state.cursor h.state.saved h.state.wrap)
      (cursor_after z t k.state.cursor k.state.saved k.state.wrap) =
      subst (λ (w : Bool). IsBelow (cursor_after z t h.state.cursor h.state.saved h.state.wrap)
      (cursor_after z t k.state.cursor k.state.saved w)) under.wrap
      (cursor_below z t h.state.cursor k.state.cursor h.state.saved k.state.saved h.state.wrap one under.cursor
      under.saved) in
      let syncs : IsSurer (sync_of z t h.sync h.state.cursor h.state.wrap)
      (cursor_after z t h.state.cursor h.state.saved h.state.wrap).column
      (sync_of z t k.sync k.state.cursor k.state.wrap) =
      subst (λ (w : Bool). IsSurer (sync_of z t h.sync h.state.cursor h.state.wrap)
      (cursor_after z t h.state.cursor h.state.saved h.state.wrap).column (sync_of z t k.sync k.state.cursor w))
      under.wrap
      (sync_surer z t h.sync k.sync h.state.cursor k.state.cursor h.state.saved h.state.wrap one under.cursor
      under.sync) in
      record {
        cursor = rw (of_h.cursor, of_k.cursor) cursors;
        saved = rw (of_h.saved_is, of_k.saved_is)
            (saved_below z t h.state.cursor k.state.cursor h.state.saved k.state.saved under.cursor under.saved);
        attribute = rw (of_h.attribute, of_k.attribute)
            (token_bits t h.state.attribute k.state.attribute under.attribute);
        wrap = of_h.wrap_is ∙ wrap_same t h.state.wrap k.state.wrap under.wrap ∙ sym of_k.wrap_is;
        sync = rw (sync_is z h.sync h.state t above_h, sync_is z k.sync k.state t above_k, of_h.cursor) syncs;
        names = ap (λ (n : Names). names_after n t) under.names;
      }

  -- ---- what is agreed
  -- a kind that arises only where another test holds too
  kind_under : (agreed : Difference → Bool) (kind : Difference) (b c : Bool) → (b ≡ true → c ≡ true)
      → IsTrue (list_all agreed (kind_if c kind)) → IsTrue (list_all agreed (kind_if b kind))
  kind_under agreed kind true c there all = ap (λ (d : Bool). list_all agreed (kind_if d kind)) (sym (there refl)) ∙ all
  kind_under agreed kind false c there all = refl

  -- a kind that arises only where one of two does
  kind_of_two : (agreed : Difference → Bool) (kind : Difference) (a b c : Bool) → (a ≡ true → c ≡ true → b ≡ true)
      → IsTrue (list_all agreed (kind_if (not a) kind)) → IsTrue (list_all agreed (kind_if (not c) kind))
      → IsTrue (list_all agreed (kind_if (not b) kind))
  kind_of_two agreed kind true true c both low high = refl
  kind_of_two agreed kind false true c both low high = refl
  kind_of_two agreed kind false false c both low high = low
  kind_of_two agreed kind true false false both low high = high
  kind_of_two agreed kind true false true both low high =
      let no : false ≡ true = both refl refl in absurd (let none : ⊥ = cc in none)

  sync_agreed : (agreed : Difference → Bool) (t : TokenKind) (g k : Sync) (column : ℕ) → IsSurer g column k
      → IsTrue (list_all agreed (sync_kinds z k t)) → IsTrue (list_all agreed (sync_kinds z g t))
  sync_agreed agreed t g k column (inl e) all =
      ap (λ (v : Sync). list_all agreed (sync_kinds z v t)) e ∙ all
  sync_agreed agreed t g k column (inr h) all =
      ap (λ (v : Sync). list_all agreed (sync_kinds z v t)) h.0 ∙ none (is_same_for_all InSync t)
    where
      none : (b : Bool) → list_all agreed (if b then [] else []) ≡ true
      none true = refl
      none false = refl

  right_under : (n a b : ℕ) → a ≤ b → not (nat_lt (a + n) z.width) ≡ true → not (nat_lt (b + n) z.width) ≡ true
  right_under n a b le e = elim (cases_Bool (nat_lt (a + n) z.width)) [
    | inl within ↦ let no : false ≡ true = sym (ap not within) ∙ e in absurd (let none : ⊥ = cc in none)
    | inr past ↦ ap not (le-ltb (b + n) z.width (omega (arith, le, ltb-false (a + n) z.width past)))
  ]

  module _ (agreed : Difference → Bool) (l h k : Stand) (low : HasBitsBelow l.state.attribute h.state.attribute)
      (under : IsUnder h k) where
    greys : (is_grey l.state) ≡ true → (is_grey k.state) ≡ true → (is_grey h.state) ≡ true
    greys e f = grey_between l.state.attribute h.state.attribute k.state.attribute low under.attribute e f

    tokens_agreed : (t : TokenKind) → IsTrue (list_all agreed (token_kinds z l.state t))
        → IsTrue (list_all agreed (token_kinds z k.state t)) → IsTrue (list_all agreed (token_kinds z h.state t))
    tokens_agreed (Forward n) from_l from_k =
        kind_under agreed StopsAtEdge _ _
        (right_under n h.state.cursor.column k.state.cursor.column under.cursor.1) from_k
    tokens_agreed (Down n) from_l from_k =
        kind_under agreed StopsAtEdge (nat_lt z.lines (h.state.cursor.row + n))
        (nat_lt z.lines (k.state.cursor.row + n))
        (λ e. lt-ltb z.lines (k.state.cursor.row + n)
        (omega (arith, under.cursor.0, ltb-true z.lines (h.state.cursor.row + n) e))) from_k
    tokens_agreed Clear from_l from_k =
        kind_of_two agreed ClearInColour (is_grey l.state) (is_grey h.state) (is_grey k.state) greys from_l from_k
    tokens_agreed EraseLine from_l from_k =
        let of_l = and_parts _ (list_all agreed (kind_if (not (is_grey l.state)) ClearInColour)) from_l in
        let of_k = and_parts _ (list_all agreed (kind_if (not (is_grey k.state)) ClearInColour)) from_k in
        and_from _ _ of_l.0
        (kind_of_two agreed ClearInColour (is_grey l.state) (is_grey h.state) (is_grey k.state) greys of_l.1 of_k.1)
    tokens_agreed t from_l from_k = from_k

    spellings_agreed : (t : TokenKind) (text : List ℕ) → IsTrue (list_all agreed (spelling_kinds l.state t text))
        → IsTrue (list_all agreed (spelling_kinds k.state t text))
        → IsTrue (list_all agreed (spelling_kinds h.state t text))
    spellings_agreed (Colours parameters) text from_l from_k =
        go (omits text) (list_all (λ n. n == 0) parameters) from_l from_k
      where
        go : (b zeros : Bool) → IsTrue (list_all agreed (kind_if (b && not (is_grey l.state && zeros)) DosColours))
            → IsTrue (list_all agreed (kind_if (b && not (is_grey k.state && zeros)) DosColours))
            → IsTrue (list_all agreed (kind_if (b && not (is_grey h.state && zeros)) DosColours))
        go false zeros from_l from_k = refl
        go true zeros from_l from_k =
            kind_of_two agreed DosColours (is_grey l.state && zeros) (is_grey h.state && zeros)
            (is_grey k.state && zeros)
            (λ e f. and_from _ _ (greys (and_parts (is_grey l.state) zeros e).0 (and_parts (is_grey k.state) zeros f).0)
            (and_parts (is_grey l.state) zeros e).1) from_l from_k
    spellings_agreed t text from_l from_k = from_k

    pub agreed_under : (x : Spelled) → IsTrue (is_agreed agreed z l x) → IsTrue (is_agreed agreed z k x)
        → IsTrue (is_agreed agreed z h x)
    agreed_under x from_l from_k =
        let of_l = parts_agreed z agreed l x from_l in
        let of_k = parts_agreed z agreed k x from_k in
        from_parts z agreed h x (record {
          sync = sync_agreed agreed x.token h.sync k.sync h.state.cursor.column under.sync of_k.sync;
          token = tokens_agreed x.token of_l.token of_k.token;
          spelling = spellings_agreed x.token x.text of_l.spelling of_k.spelling;
          named = ap (λ (n : Names). list_all agreed (name_kinds n x.token)) under.names ∙ of_k.named;
        })
