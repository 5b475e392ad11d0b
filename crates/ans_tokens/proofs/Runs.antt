-- A run of plain bytes, byte by byte: what each of them keeps holds past all of them.
use Rattle.std.proofs.Common.{◌≡◌, ℕ, suc, ◌+◌, ◌-◌, ◌<◌, ◌≤◌, ◌&&◌, ◌==◌, nat_le, not, List, [], ◌∷◌, ◌++◌}
use Rattle.std.proofs.Common.{length, drop, take, map, get_or, false, IsTrue, All, refl, sym, ap, ◌∙◌, subst, arith}
use Rattle.std.proofs.Common.{append_assoc, length-append}
use Rattle.std.specs.List.{AllZip, concat}
use Rattle.std.proofs.lemmas.Bool.{and_parts, le-ltb, leb-true}
use Rattle.std.proofs.lemmas.List.{append-nil, length-drop, take_all}
use Rattle.std.proofs.lemmas.List.Elements.{All-head, All-tail}
use Rattle.ans_model.specs.Bytes.{IsByte}
use Rattle.ans_model.specs.Sequence.TokenKind.{TokenKind, Glyph}
use Rattle.ans_model.specs.Sequence.Reads.{SpellsToken, ReadsAs}
use Rattle.ans_tokens.specs.Glyphs.{IsGlyphByte}
use Rattle.ans_tokens.specs.Walk.{Front, IsRunNext, begins_as_code, begins_plainly, front_of, front_past, front_with}
use Rattle.ans_tokens.specs.Walk.{is_foreign}
use Rattle.ans_tokens.specs.Walk.{is_plain}
use Rattle.ans_tokens.proofs.Readable.{reads_as_more}
use Rattle.ans_tokens.proofs.TextFront.{not_low}

-- the bytes from an offset on
pub rest_of : (content : List ℕ) (at : ℕ) → take (length content - at) (drop at content) ≡ drop at content
rest_of content at = take_all (length content - at) (drop at content) (omega (arith, length-drop at content))

-- ---- plain bytes
-- a plain byte is no control, and not foreign
pub plain_parts : (b : ℕ) → IsTrue (is_plain b) → (0x20 ≤ b) × IsTrue (not (is_foreign b))
plain_parts b plain =
    let all = and_parts (nat_le 0x20 b && not (b == 0x7F)) (not (is_foreign b)) plain in
    (leb-true 0x20 b (and_parts (nat_le 0x20 b) (not (b == 0x7F)) all.0).0, all.1)

pub plain_glyph : (b : ℕ) → IsByte b → IsTrue (is_plain b) → IsGlyphByte b
plain_glyph b byte plain = not_low b byte (le-ltb b 0x20 (plain_parts b plain).0)

-- before what begins plainly, plain bytes do so too
pub plainly_before : (run behind : List ℕ) → All (λ byte. IsTrue (is_plain byte)) run
    → IsTrue (begins_plainly behind) → IsTrue (begins_plainly (run ++ behind))
plainly_before [] behind plain ends = ends
plainly_before (b ∷ run) behind plain ends =
    (plain_parts b (All-head (λ byte. IsTrue (is_plain byte)) b run plain)).1

-- ---- one byte
-- The byte at k of a run comes next, before the rest of the run and what stands behind it.
pub record IsByteNext (run behind : List ℕ) (front : Front) (offset k byte : ℕ) (rest : List ℕ) : Type 0 where
  pub within : k < length run
  pub byte_is : get_or run k 0 ≡ byte
  pub rest_is : rest ≡ drop (suc k) run ++ behind
  pub each : AllZip SpellsToken front.tokens front.texts
  pub whole : front.behind ≡ byte ∷ rest
  pub starts : offset + k ≡ length (concat front.texts)
  pub spelled : SpellsToken (Glyph byte) (byte ∷ [])
  pub plain : IsTrue (is_plain byte)
  pub no_code : begins_as_code (byte ∷ rest) ≡ false
  pub ends : IsTrue (begins_plainly rest)

-- what is kept of the bytes so far and of the front past them is kept with one byte more
abbrev pub KeptByBytes : (ℕ → Front → Type 0) → ℕ → List ℕ → List ℕ → Type 0
KeptByBytes kept offset run behind =
    (k byte : ℕ) (front : Front) (rest : List ℕ) → IsByteNext run behind front offset k byte rest → kept k front
    → kept (suc k) (front_with front (Glyph byte) (byte ∷ []) rest)

module _ (b : ℕ) (run behind : List ℕ) (front : Front) (offset : ℕ) (byte : IsByte b)
    (h : IsRunNext front offset (b ∷ run) behind) where
  plain_first : IsTrue (is_plain b)
  plain_first = All-head (λ v. IsTrue (is_plain v)) b run h.plain

  plain_later : All (λ v. IsTrue (is_plain v)) run
  plain_later = All-tail (λ v. IsTrue (is_plain v)) b run h.plain

  first_byte : IsByteNext (b ∷ run) behind front offset 0 b (run ++ behind)
  first_byte = record {
    within = omega arith;
    byte_is = refl;
    rest_is = refl;
    each = h.each;
    whole = h.whole;
    starts = omega (arith, h.starts);
    spelled = plain_glyph b byte plain_first;
    plain = plain_first;
    no_code = h.codes 0 (omega arith);
    ends = plainly_before run behind plain_later h.ends;
  }

  later_bytes : IsRunNext (front_with front (Glyph b) (b ∷ []) (run ++ behind)) (offset + 1) run behind
  later_bytes =
      let read : ReadsAs (concat front.texts) front.tokens front.texts = record { each = h.each; whole = refl } in
      let more = reads_as_more (concat front.texts) (b ∷ []) front.tokens front.texts (Glyph b) read
      (plain_glyph b byte plain_first) in
      record {
        each = more.each;
        whole = refl;
        starts = omega (arith, h.starts, ap length more.whole, length-append (concat front.texts) (b ∷ []));
        plain = plain_later;
        codes = λ k early. h.codes (suc k) (omega (arith, early));
        ends = h.ends;
      }

-- the same byte, where one stands before the run
one_before : (b : ℕ) (run behind : List ℕ) (front : Front) (offset k byte : ℕ) (rest : List ℕ)
    → IsByteNext run behind front (offset + 1) k byte rest
    → IsByteNext (b ∷ run) behind front offset (suc k) byte rest
one_before b run behind front offset k byte rest h = record {
  within = omega (arith, h.within);
  byte_is = h.byte_is;
  rest_is = h.rest_is;
  each = h.each;
  whole = h.whole;
  starts = omega (arith, h.starts);
  spelled = h.spelled;
  plain = h.plain;
  no_code = h.no_code;
  ends = h.ends;
}

-- ---- all bytes
-- what each byte keeps is kept by the run
pub kept_past : (kept : ℕ → Front → Type 0) (offset : ℕ) (run behind : List ℕ) (front : Front)
    → ((k : ℕ) → k < length run → IsByte (get_or run k 0)) → KeptByBytes kept offset run behind
    → IsRunNext front offset run behind → kept 0 front → kept (length run) (front_past front run behind)
kept_past kept offset [] behind front bytes each h so_far = so_far
kept_past kept offset (b ∷ run) behind front bytes each h so_far =
    let byte : IsByte b = bytes 0 (omega arith) in
    kept_past (λ k. kept (suc k)) (offset + 1) run behind (front_with front (Glyph b) (b ∷ []) (run ++ behind))
    (λ k l. bytes (suc k) (omega (arith, l)))
    (λ k v front rest g. each (suc k) v front rest (one_before b run behind front offset k v rest g))
    (later_bytes b run behind front offset byte h)
    (each 0 b front (run ++ behind) (first_byte b run behind front offset byte h) so_far)

-- its tokens are read too
pub reads_past : (front : Front) (read run behind : List ℕ) → All IsGlyphByte run
    → ReadsAs read front.tokens front.texts
    → ReadsAs (read ++ run) (front_past front run behind).tokens (front_past front run behind).texts
reads_past front read [] behind glyphs h = rw append-nil h
reads_past front read (b ∷ run) behind glyphs h =
    let next = front_with front (Glyph b) (b ∷ []) (run ++ behind) in
    let more = reads_as_more read (b ∷ []) front.tokens front.texts (Glyph b) h (All-head IsGlyphByte b run glyphs) in
    subst (λ (v : List ℕ). ReadsAs v (front_past next run behind).tokens (front_past next run behind).texts)
    (append_assoc read (b ∷ []) run)
    (reads_past next (read ++ b ∷ []) run behind (All-tail IsGlyphByte b run glyphs) more)

-- ---- the front past a run
pub past_tokens : (front : Front) (run behind : List ℕ)
    → (front_past front run behind).tokens ≡ front.tokens ++ map (λ b. Glyph b) run
past_tokens front [] behind = sym (append-nil front.tokens)
past_tokens front (b ∷ run) behind =
    past_tokens (front_with front (Glyph b) (b ∷ []) (run ++ behind)) run behind
    ∙ append_assoc front.tokens (Glyph b ∷ []) (map (λ b. Glyph b) run)

pub past_texts : (front : Front) (run behind : List ℕ)
    → (front_past front run behind).texts ≡ front.texts ++ map (λ b. b ∷ []) run
past_texts front [] behind = sym (append-nil front.texts)
past_texts front (b ∷ run) behind =
    past_texts (front_with front (Glyph b) (b ∷ []) (run ++ behind)) run behind
    ∙ append_assoc front.texts ((b ∷ []) ∷ []) (map (λ b. b ∷ []) run)

pub past_behind : (front : Front) (run behind : List ℕ) → front.behind ≡ run ++ behind
    → (front_past front run behind).behind ≡ behind
past_behind front [] behind whole = whole
past_behind front (b ∷ run) behind whole =
    past_behind (front_with front (Glyph b) (b ∷ []) (run ++ behind)) run behind refl

front_is : (front : Front) (tokens : List TokenKind) (texts : List (List ℕ)) (behind : List ℕ)
    → front.tokens ≡ tokens → front.texts ≡ texts → front.behind ≡ behind → front ≡ front_of tokens texts behind
front_is front tokens texts behind tokens_are texts_are behind_is =
    ap (λ (v : List TokenKind). front_of v front.texts front.behind) tokens_are
    ∙ ap (λ (v : List (List ℕ)). front_of tokens v front.behind) texts_are
    ∙ ap (λ (v : List ℕ). front_of tokens texts v) behind_is

pub past_is : (front : Front) (run behind : List ℕ) → front.behind ≡ run ++ behind
    → front_past front run behind
    ≡ front_of (front.tokens ++ map (λ b. Glyph b) run) (front.texts ++ map (λ b. b ∷ []) run) behind
past_is front run behind whole =
    front_is (front_past front run behind) (front.tokens ++ map (λ b. Glyph b) run)
    (front.texts ++ map (λ b. b ∷ []) run) behind (past_tokens front run behind) (past_texts front run behind)
    (past_behind front run behind whole)
