-- What is asked for changes a file in one way.
use Rattle.std.proofs.Common.{◌≡◌, inl, inr, ℕ, ◌+◌, Bool, true, false, List, [], ◌∷◌, ◌++◌, length, take}
use Rattle.std.proofs.Common.{refl, sym, ap, ap₂, ◌∙◌, arith, subst, subst₂, true≢false, Option, None, Some}
use Rattle.std.specs.Prelude.{MatchBool, is_some, unwrap_or, ◌||◌, ◌<◌, get_or}
use Rattle.std.specs.List.{AllZip, concat, list_any}
use Rattle.std.proofs.lemmas.Bool.{cases_lt}
use Rattle.ans_model.specs.Bytes.{most_lines}
use Rattle.ans_model.specs.File.Record.{is_non_blink, stated_width}
use Rattle.ans_model.specs.File.Refusals.{has_record}
use Rattle.ans_model.specs.Screen.State.{Size, sized}
use Rattle.ans_model.specs.Sequence.TokenKind.{TokenKind}
use Rattle.ans_model.specs.Sequence.Reads.{Reads, ReadsAs, SpellsToken}
use Rattle.ans_model.proofs.Reading.{one_token_in_front, token_nonempty}
use Rattle.ans_players.proofs.OneSpelling.{one_spelling}
use Rattle.ans_sauce.specs.Found.{IsLastRecord, record_in}
use Rattle.ans_forms.specs.declared.kinds.Before.{Before}
use Rattle.ans_forms.specs.declared.kinds.TheConstants.Before as before
use Rattle.ans_check_laws.proofs.OneGoing.{goes_or_not, one_end, one_goes_first}
use Rattle.ans_hints.specs.FullRowEnds.{full_row_ends, without_ends}
use Rattle.ans_hints.specs.Hints.{are_torn}
use Rattle.ans_hints.specs.OtherWidths.{AreOtherWidths, IsPlaceOf, has_other_widths, tried_widths}
use Rattle.ans_hints.specs.declared.other_widths.OtherWidths.{OtherWidths}
use Rattle.std.proofs.lemmas.List.{ext_get_or}
use Rattle.ans_mend.specs.LastEnds.{LeavesMost, most_sequences}
use Rattle.ans_pens.specs.Lines.{IsLeastLines}
use Rattle.ans_hints.specs.declared.hints.Hints.{Hints}
use Rattle.ans_pens.specs.declared.times.Times.{Times}
use Rattle.ans_sauce.specs.Contents.{content_in, with_content}
use Rattle.ans_mend.specs.FullRows.{AreRowEndsOut, HasFullRows, MayGo}
use Rattle.ans_mend.specs.LastEnds.{AreLastEndsOut, HasFewerEnds}
use Rattle.ans_mend.specs.NamedColours.{AreColoursNamed, HasNamedColours, named_content}
use Rattle.ans_mend.specs.Tail.{IsTailCut}
use Rattle.ans_mend.specs.TakingOut.{AreTakenOut, Gone, TakesOut, TakesOutOf, flagged, nothing_told, switched, told_of}
use Rattle.ans_mend.specs.declared.outcome.Edits.{Edits}
use Rattle.ans_mend.specs.declared.taking_out.Told.{Told}
use Rattle.ans_model.specs.declared.mends.Mends.{Mends}
use Rattle.ans_why.specs.Explained.{AreHintsOf}
use Rattle.ans_mend.specs.Mending.{AreLastEndsGone, AreLinesFor, AreNamed, AreRowsJoined}
use Rattle.ans_mend.specs.Mending.{AsksForLeast, HasLeast, IsAskedNumber, IsEdited, KeepsLines, TakesLines}
use Rattle.ans_mend.specs.Mending.{TellsTorn, asks_for_lines, iced, lines_before, returned}

-- ---- the tail

same_some : (m n : ℕ) → ◌≡◌ {A = Option ℕ} (Some m) (Some n) → m ≡ n
same_some m n e = ap (λ (v : Option ℕ). unwrap_or v 0) e

one_last : (file : List ℕ) (a b : Option ℕ) → IsLastRecord file a → IsLastRecord file b → a ≡ b
one_last file None None h g = refl
one_last file None (Some k) h g = absurd (h k g.0.low g.0.high g.1)
one_last file (Some j) None h g = absurd (g j h.0.low h.0.high h.1)
one_last file (Some j) (Some k) h g = elim (cases_lt j k) [
  | inl before ↦ absurd (h.0.after k (omega (arith, before)) g.0.high g.1)
  | inr down ↦ elim (cases_lt k j) [
    | inl behind ↦ absurd (g.0.after j (omega (arith, behind)) h.0.high h.1)
    | inr up ↦
        let same : j ≡ k = omega (arith, down, up) in
        ap (λ (n : ℕ). Some n) same
  ]
]

pub one_cut : (file a b : List ℕ) → IsTailCut file a → IsTailCut file b → a ≡ b
one_cut file a b (inl (p, h, a_is)) (inl (q, g, b_is)) =
    a_is ∙ ap (λ (n : ℕ). take (n + 128) file) (same_some p q (one_last file (Some p) (Some q) h.last g.last))
    ∙ sym b_is
one_cut file a b (inl (p, h, a_is)) (inr (none, b_is)) = absurd (none p h)
one_cut file a b (inr (none, a_is)) (inl (q, g, b_is)) = absurd (none q g)
one_cut file a b (inr (none, a_is)) (inr (never, b_is)) = a_is ∙ sym b_is

-- ---- sequences

pub one_left : (from_here : Before) (from : ℕ) (gone others : List Gone) (bytes left other : List ℕ)
    (end end' : Before) → TakesOut from_here from gone bytes left end
    → TakesOut from_here from others bytes other end'
    → (gone ≡ others) × (left ≡ other) × (end ≡ end')
one_left from_here from [] [] bytes left other end end' h g =
    (refl, h.1 ∙ sym g.1, one_end from_here end end' bytes h.0 g.0)
one_left from_here from [] (y ∷ ys) bytes left other end end' h
    (kept, rest, later, after, first, place, is, takes) =
    absurd (goes_or_not from_here after bytes kept y.kind y.text rest first h.0.nothing)
one_left from_here from (x ∷ xs) [] bytes left other end end'
    (kept, rest, later, after, first, place, is, takes) g =
    absurd (goes_or_not from_here after bytes kept x.kind x.text rest first g.0.nothing)
one_left from_here from (x ∷ xs) (y ∷ ys) bytes left other end end' (kept, rest, later, after, first, place, is, takes)
    (kept_too, rest_too, later_too, after_too, first_too, place_too, is_too, takes_too) =
    let same =
    one_goes_first from_here after after_too bytes kept kept_too x.kind y.kind x.text y.text rest rest_too first
    first_too
    in
    let at : x.place ≡ y.place = place ∙ ap (λ (v : List ℕ). from + length v) same.0 ∙ sym place_too in
    let one : x ≡ y = λ i. record { kind = same.1 i; place = at i; text = same.2 i } in
    let moved : TakesOut (switched after x.kind x.text) (x.place + length x.text) ys rest later_too end' =
    subst (λ (v : Gone). TakesOut (switched after v.kind v.text) (v.place + length v.text) ys rest later_too end')
    (sym one)
    (subst₂ (λ (v : Before) (w : List ℕ). TakesOut (switched v y.kind y.text) (y.place + length y.text) ys w
    later_too end') (sym same.4) (sym same.3) takes_too) in
    let more = one_left (switched after x.kind x.text) (x.place + length x.text) xs ys rest later later_too end end'
    takes moved in (
      ap₂ (λ (v : Gone) (w : List Gone). v ∷ w) one more.0,
      is ∙ ap₂ (λ (v w : List ℕ). v ++ w) same.0 more.1 ∙ sym is_too,
      more.2,
    )

one_without : (file a b : List ℕ) (s t : Told) → TakesOutOf file a s → TakesOutOf file b t → a ≡ b
one_without file a b s t h g =
    let same = one_left before.NOTHING 0 h.gone g.gone (content_in file) h.left g.left h.end g.end h.takes_out
    g.takes_out in
    let told : s ≡ t =
    h.told_is ∙ ap₂ (λ (v : List Gone) (w : Before). told_of v w) same.0 same.2 ∙ sym g.told_is in
    h.new_is ∙ ap₂ (λ (v : Told) (w : List ℕ). flagged v.bright_backgrounds (with_content w file)) told same.1
    ∙ sym g.new_is

-- what is done where it is asked for, and what is left as it is, is one
one_if : {A : Type 0} (asked : Bool) (file a b : List ℕ) (D : List ℕ → A → Type 0) (N : A → Type 0) (s t : A)
    → (D a s → D b t → a ≡ b) → MatchBool asked (D a s) ((a ≡ file) × N s) → MatchBool asked (D b t) ((b ≡ file) × N t)
    → a ≡ b
one_if true file a b D N s t one h g = one h g
one_if false file a b D N s t one h g = h.0 ∙ sym g.0

-- ---- line ends behind full rows

one_texts : (ts us : List TokenKind) (xs zs : List (List ℕ)) → AllZip SpellsToken ts xs → AllZip SpellsToken us zs
    → concat xs ≡ concat zs → (ts ≡ us) × (xs ≡ zs)
one_texts [] [] [] [] h g e = (refl, refl)
one_texts [] [] [] (b ∷ zs) h g e = absurd g
one_texts [] [] (a ∷ xs) zs h g e = absurd h
one_texts [] (u ∷ us) [] [] h g e = absurd g
one_texts [] (u ∷ us) [] (b ∷ zs) h g e = absurd (token_nonempty u b (concat zs) g.0 (sym e))
one_texts [] (u ∷ us) (a ∷ xs) zs h g e = absurd h
one_texts (t ∷ ts) [] [] zs h g e = absurd h
one_texts (t ∷ ts) [] (a ∷ xs) [] h g e = absurd (token_nonempty t a (concat xs) h.0 e)
one_texts (t ∷ ts) [] (a ∷ xs) (b ∷ zs) h g e = absurd g
one_texts (t ∷ ts) (u ∷ us) [] zs h g e = absurd h
one_texts (t ∷ ts) (u ∷ us) (a ∷ xs) [] h g e = absurd g
one_texts (t ∷ ts) (u ∷ us) (a ∷ xs) (b ∷ zs) h g e =
    let same = one_token_in_front t u a b (concat xs) (concat zs) h.0 g.0 e in
    let more = one_texts ts us xs zs h.1 g.1 same.2 in (
      ap₂ (λ (v : TokenKind) (w : List TokenKind). v ∷ w) same.0 more.0,
      ap₂ (λ (v : List ℕ) (w : List (List ℕ)). v ∷ w) same.1 more.1,
    )

-- what may go is read so
may_read : (mixed : Bool) (z : Size) (content : List ℕ) (tokens : List TokenKind) (texts : List (List ℕ))
    → MayGo mixed z content tokens texts → ReadsAs content tokens texts
may_read false z content tokens texts h = h.reads
may_read true z content tokens texts h = h.reads

one_row_ends : (mixed : Bool) (z : Size) (content a b : List ℕ) (s t : Option Times)
    → AreRowEndsOut mixed z content a s → AreRowEndsOut mixed z content b t → a ≡ b
one_row_ends mixed z content a b s t (inl h) (inl g) =
    let same =
    one_texts h.tokens g.tokens h.texts g.texts (may_read mixed z content h.tokens h.texts h.may_go).each
    (may_read mixed z content g.tokens g.texts g.may_go).each
    (sym (may_read mixed z content h.tokens h.texts h.may_go).whole
    ∙ (may_read mixed z content g.tokens g.texts g.may_go).whole) in
    h.left_is
    ∙ ap₂ (λ (v : List TokenKind) (w : List (List ℕ)). without_ends 0 (full_row_ends z v w) content) same.0 same.1
    ∙ sym g.left_is
one_row_ends mixed z content a b s t (inl h) (inr (none, is, no_times)) = absurd (none h.tokens h.texts h.may_go)
one_row_ends mixed z content a b s t (inr (none, is, no_times)) (inl g) = absurd (none g.tokens g.texts g.may_go)
one_row_ends mixed z content a b s t (inr (none, is, no_times)) (inr (never, is_too, none_too)) = is ∙ sym is_too

-- ---- line ends at the end

one_count : (z : Size) (bytes : List ℕ) (m n : ℕ) → LeavesMost most_sequences z bytes m
    → LeavesMost most_sequences z bytes n → m ≡ n
one_count z bytes m n h g = elim (cases_lt m n) [
  | inl fewer ↦ absurd (h.most n fewer g.leaves g.passes)
  | inr up ↦ elim (cases_lt n m) [
    | inl fewer ↦ absurd (g.most m fewer h.leaves h.passes)
    | inr down ↦ omega (arith, up, down)
  ]
]

one_last_ends : (z : Size) (content a b : List ℕ) (s t : Option Times) → AreLastEndsOut z content a s
    → AreLastEndsOut z content b t → a ≡ b
one_last_ends z content a b s t (inl h) (inl g) =
    h.left_is ∙ ap (λ (n : ℕ). take n content) (one_count z content h.count g.count h.leaves g.leaves)
    ∙ sym g.left_is
one_last_ends z content a b s t (inl h) (inr (never, is, none)) =
    absurd (never h.count h.leaves.leaves h.leaves.passes)
one_last_ends z content a b s t (inr (never, is, none)) (inl g) =
    absurd (never g.count g.leaves.leaves g.leaves.passes)
one_last_ends z content a b s t (inr (never, is, none)) (inr (never_too, is_too, none_too)) = is ∙ sym is_too

-- ---- names of colours

one_named : (content a b : List ℕ) (s t : Option Times) → AreColoursNamed content a s → AreColoursNamed content b t
    → a ≡ b
one_named content a b s t (inl h) (inl g) =
    h.left_is ∙ ap named_content (one_spelling content h.tokens g.tokens h.reads g.reads) ∙ sym g.left_is
one_named content a b s t (inl h) (inr (never, is, none)) = absurd (never h.tokens h.reads)
one_named content a b s t (inr (never, is, none)) (inl g) = absurd (never g.tokens g.reads)
one_named content a b s t (inr (never, is, none)) (inr (never_too, is_too, none_too)) = is ∙ sym is_too

-- ---- a content in a file that has a record

-- what is one of a content is one of its file
one_in_file : (has : Bool) (file a b : List ℕ) (s t : Option Times) (D : List ℕ → Option Times → Type 0)
    → ((x y : List ℕ) → D x s → D y t → x ≡ y)
    → MatchBool has ((left : List ℕ) × D left s × (a ≡ with_content left file)) ((a ≡ file) × (s ≡ None))
    → MatchBool has ((left : List ℕ) × D left t × (b ≡ with_content left file)) ((b ≡ file) × (t ≡ None))
    → a ≡ b
one_in_file true file a b s t D one (x, h, a_is) (y, g, b_is) =
    a_is ∙ ap (λ (v : List ℕ). with_content v file) (one x y h g) ∙ sym b_is
one_in_file false file a b s t D one h g = h.0 ∙ sym g.0

one_taken : (has : Bool) (file a b : List ℕ) (s t : Told)
    → MatchBool has (TakesOutOf file a s) ((a ≡ file) × (s ≡ nothing_told))
    → MatchBool has (TakesOutOf file b t) ((b ≡ file) × (t ≡ nothing_told)) → a ≡ b
one_taken true file a b s t h g = one_without file a b s t h g
one_taken false file a b s t h g = h.0 ∙ sym g.0

-- ---- all of it
module _ (mends : Mends) (z : Size) (file a b : List ℕ) (x y : Edits) (h : IsEdited mends z file a x)
    (g : IsEdited mends z file b y) where
  same_out : h.out ≡ g.out
  same_out =
      let taken : h.sequences.0 ≡ g.sequences.0 =
      one_if mends.take_out (returned mends file) h.sequences.0 g.sequences.0
      (λ out told. AreTakenOut (returned mends file) out told) (λ told. told ≡ nothing_told) x.told y.told
      (one_taken (has_record (returned mends file)) (returned mends file) h.sequences.0 g.sequences.0 x.told y.told)
      h.sequences.1 g.sequences.1 in
      h.sequences.2 ∙ ap (iced mends) taken ∙ sym g.sequences.2

  same_joined : h.joined ≡ g.joined
  same_joined =
      one_if mends.join_rows h.out h.joined g.joined
      (λ joined times. HasFullRows mends.mixed (sized z.width most_lines) h.out joined times)
      (λ times. times ≡ None) x.row_ends y.row_ends
      (one_in_file (has_record h.out) h.out h.joined g.joined x.row_ends y.row_ends
      (AreRowEndsOut mends.mixed (sized z.width most_lines) (content_in h.out))
      (λ v w. one_row_ends mends.mixed (sized z.width most_lines) (content_in h.out) v w x.row_ends y.row_ends))
      h.rows
      (subst (λ (v : List ℕ). AreRowsJoined mends z v g.joined y.row_ends) (sym same_out) g.rows)

  same_ended : h.ended ≡ g.ended
  same_ended =
      one_if mends.take_out h.joined h.ended g.ended (λ ended times. HasFewerEnds z h.joined ended times)
      (λ times. times ≡ None) x.last_ends y.last_ends
      (one_in_file (has_record h.joined) h.joined h.ended g.ended x.last_ends y.last_ends
      (AreLastEndsOut z (content_in h.joined))
      (λ v w. one_last_ends z (content_in h.joined) v w x.last_ends y.last_ends))
      h.ends
      (subst (λ (v : List ℕ). AreLastEndsGone mends z v g.ended y.last_ends) (sym same_joined) g.ends)

  pub one_edited : a ≡ b
  one_edited =
      one_if mends.name_colours h.ended a b (λ new times. HasNamedColours h.ended new times) (λ times. times ≡ None)
      x.named_colours y.named_colours
      (one_in_file (has_record h.ended) h.ended a b x.named_colours y.named_colours
      (AreColoursNamed (content_in h.ended))
      (λ v w. one_named (content_in h.ended) v w x.named_colours y.named_colours))
      h.named
      (subst (λ (v : List ℕ). AreNamed mends v b y.named_colours) (sym same_ended) g.named)

-- ---- the lines

one_least : (width : ℕ) (bytes : List ℕ) (n m : ℕ) → IsLeastLines width bytes n → IsLeastLines width bytes m → n ≡ m
one_least width bytes n m h g = elim (cases_lt n m) [
  | inl fewer ↦ absurd (g.fewer n fewer h.enough)
  | inr up ↦ elim (cases_lt m n) [
    | inl fewer ↦ absurd (h.fewer m fewer g.enough)
    | inr down ↦ omega (arith, up, down)
  ]
]

-- hints of what is read as these tokens are the same
module _ (z : Size) (flag : Bool) (bytes behind : List ℕ) (tokens : List TokenKind) (a b : Hints)
    (reads : Reads bytes tokens) (of_a : AreHintsOf z flag bytes behind a)
    (of_b : AreHintsOf z flag bytes behind b) where
  same_hints : a ≡ b
  same_hints =
      let h = of_a tokens reads.0 reads.1 in
      let g = of_b tokens reads.0 reads.1 in
      λ i. record {
        loose_line_feeds = (h.loose_line_feeds ∙ sym g.loose_line_feeds) i;
        row_ends = (h.row_ends ∙ sym g.row_ends) i;
        wide_characters = (h.wide_characters ∙ sym g.wide_characters) i;
        two_byte_letters = (h.two_byte_letters ∙ sym g.two_byte_letters) i;
        latin_letters = (h.latin_letters ∙ sym g.latin_letters) i;
        board_codes = (h.board_codes ∙ sym g.board_codes) i;
        later_colours = (h.later_colours ∙ sym g.later_colours) i;
        off_switches = (h.off_switches ∙ sym g.off_switches) i;
        blinking_glyphs = (h.blinking_glyphs ∙ sym g.blinking_glyphs) i;
        seen_glyphs = (h.seen_glyphs ∙ sym g.seen_glyphs) i;
        dark_glyphs = (h.dark_glyphs ∙ sym g.dark_glyphs) i;
        empty_rows = (h.empty_rows ∙ sym g.empty_rows) i;
      }

-- of one result the places are the same
one_place : (width : ℕ) (Fits : Type 0) (a b : Option ℕ) → IsPlaceOf width Fits a → IsPlaceOf width Fits b → a ≡ b
one_place width Fits None None h g = refl
one_place width Fits None (Some n) h g = absurd (h g.1)
one_place width Fits (Some m) None h g = absurd (g h.1)
one_place width Fits (Some m) (Some n) h g = ap (λ (v : ℕ). Some v) (h.0 ∙ sym g.0)

one_widths : (width lines : ℕ) (hints : Hints) (bytes : List ℕ) (a b : OtherWidths)
    → AreOtherWidths width lines hints bytes a → AreOtherWidths width lines hints bytes b
    → has_other_widths a ≡ has_other_widths b
one_widths width lines hints bytes a b h g =
    let fitting : a.fitting ≡ b.fitting = ext_get_or None a.fitting b.fitting (h.eight ∙ sym g.eight)
    (λ k within. let few : k < 8 = rw h.eight at within in one_place (get_or (tried_widths width) k 0) _
    (get_or a.fitting k None) (get_or b.fitting k None) (h.fitting k few) (g.fitting k few)) in
    ap₂ (λ (v : Bool) (w : List (Option ℕ)). v || list_any is_some w) (h.exchanged ∙ sym g.exchanged) fitting

-- the rows are torn on as many lines, or they are not
one_telling : (lacks : Bool) (sauce bytes : List ℕ) (n : ℕ) (tokens : List TokenKind) → Reads bytes tokens
    → TellsTorn true lacks sauce bytes n → TellsTorn false lacks sauce bytes n → ⊥
one_telling lacks sauce bytes n tokens reads (a, a_of, v, v_of, torn) (b, b_of, w, w_of, whole) =
    let width : ℕ = stated_width sauce in
    let lines : ℕ = lines_before lacks sauce in
    let same : a ≡ b = same_hints (sized width n) (is_non_blink sauce) bytes [] tokens a b reads a_of b_of in
    let widths : has_other_widths v ≡ has_other_widths w =
    one_widths width lines b bytes v w (subst (λ (h : Hints). AreOtherWidths width lines h bytes v) same v_of) w_of in
    true≢false (sym torn ∙ ap₂ (λ (x y : Bool). x || y) (ap are_torn same) widths ∙ whole)

-- the rows are torn on the least number, or they are not
pub one_torn : (lacks : Bool) (sauce bytes : List ℕ) (n m : ℕ) → HasLeast true lacks sauce bytes n
    → HasLeast false lacks sauce bytes m → ⊥
one_torn lacks sauce bytes n m (within, least, torn) (within_too, least_too, whole) =
    let same : n ≡ m = one_least (stated_width sauce) bytes n m least least_too in
    one_telling lacks sauce bytes n least.enough.1.tokens least.enough.1.reads torn
    (subst (λ (v : ℕ). TellsTorn false lacks sauce bytes v) (sym same) whole)

given_asks : (mends : Mends) (n : ℕ) → mends.lines ≡ Some n → asks_for_lines mends ≡ true
given_asks mends n is = ap (λ (v : Option ℕ). is_some v || mends.least_lines) is

pub least_asks : (mends : Mends) → AsksForLeast mends → asks_for_lines mends ≡ true
least_asks mends asks =
    ap₂ (λ (v : Option ℕ) (w : Bool). is_some v || w) asks.0 asks.1

pub none_or_some : (o : Option ℕ) (n : ℕ) → o ≡ None → o ≡ Some n → ⊥
none_or_some o n none some =
    let e : ◌≡◌ {A = Option ℕ} None (Some n) = sym none ∙ some in cc

module _ (mends : Mends) (lacks : Bool) (sauce bytes : List ℕ) where
  asked_asks : (n : ℕ) → IsAskedNumber mends lacks sauce bytes n → asks_for_lines mends ≡ true
  asked_asks n (inl given) = given_asks mends n given
  asked_asks n (inr (asks, least)) = least_asks mends asks

  -- lines are taken, or they stay
  pub kept_or_taken : (n : ℕ) → KeepsLines mends lacks sauce bytes → TakesLines mends lacks sauce bytes n → ⊥
  kept_or_taken n (none_lack, why) (inl lack, asked) = true≢false (sym lack ∙ none_lack)
  kept_or_taken n (none_lack, inl good) (inr bad, asked) = bad good
  kept_or_taken n (none_lack, inr (inl never)) (inr bad, asked) = true≢false (sym (asked_asks n asked) ∙ never)
  kept_or_taken n (none_lack, inr (inr (asks, never))) (inr bad, inl given) = none_or_some mends.lines n asks.0 given
  kept_or_taken n (none_lack, inr (inr (asks, never))) (inr bad, inr (asks_too, (within, least, torn))) =
      never n within least.enough

  one_number : (m n : ℕ) → IsAskedNumber mends lacks sauce bytes m → IsAskedNumber mends lacks sauce bytes n → m ≡ n
  one_number m n (inl given) (inl given_too) = same_some m n (sym given ∙ given_too)
  one_number m n (inl given) (inr (asks, least)) = absurd (none_or_some mends.lines m asks.0 given)
  one_number m n (inr (asks, least)) (inl given) = absurd (none_or_some mends.lines n asks.0 given)
  one_number m n (inr (asks, least)) (inr (asks_too, least_too)) =
      one_least (stated_width sauce) bytes m n least.1 least_too.1

pub one_lines : (mends : Mends) (lacks : Bool) (file : List ℕ) (a b : Option ℕ) → AreLinesFor mends lacks file a
    → AreLinesFor mends lacks file b → a ≡ b
one_lines mends lacks file None None h g = refl
one_lines mends lacks file None (Some n) h g =
    absurd (kept_or_taken mends lacks (record_in file) (content_in file) n h g)
one_lines mends lacks file (Some n) None h g =
    absurd (kept_or_taken mends lacks (record_in file) (content_in file) n g h)
one_lines mends lacks file (Some m) (Some n) h g =
    ap (λ (v : ℕ). Some v) (one_number mends lacks (record_in file) (content_in file) m n h.1 g.1)
