-- Where the ways between the cells lead, and the colours.
use Rattle.std.proofs.Common.{◌≡◌, ℕ, zero, suc, ◌+◌, ◌-◌, ◌*◌, ◌/◌, ◌%◌, ◌<◌, ◌≤◌, Bool, true, false, refl}
use Rattle.std.proofs.Common.{ap, ap₂, sym, ◌∙◌, arith, lit<, fold, List, [], ◌∷◌, ◌++◌, drop, replicate, subst, min}
use Rattle.std.proofs.Common.{append_assoc, codes}
use Rattle.std.specs.Prelude.{decimal, nat_le, ◌==◌, if◌then◌else◌, bit_or}
use Rattle.std.specs.List.{list_any}
use Rattle.std.specs.Int.Bits.{and_zero_r}
use Rattle.std.proofs.Math.Nat.{mod-lt, div-add-mod}
use Rattle.std.proofs.lemmas.Bool.{eqb-true, eqb-false, le-ltb, leb-true}
use Rattle.std.proofs.lemmas.List.{replicate-append-replicate}
use Rattle.ans_model.specs.Bytes.{IsByte, escape, bracket}
use Rattle.ans_model.specs.File.Layout.{is_end_mark}
use Rattle.ans_model.specs.declared.cell.Cell.{Cell}
use Rattle.ans_model.specs.declared.cell.Position.{Position}
use Rattle.ans_model.specs.Sequence.TokenKind.{CarriageReturn, LineFeed, Up, Place}
use Rattle.ans_model.specs.Sequence.Reads.{SpellsToken}
use Rattle.ans_model.specs.Screen.Attribute.{attribute_after_all}
use Rattle.ans_model.specs.Screen.State.{Size, State, at}
use Rattle.ans_model.specs.Screen.Step.{blank_cell}
use Rattle.ans_model.proofs.BeginningLemmas.{place_is_within}
use Rattle.ans_model.proofs.StepLemmas.{line_feed_is}
use Rattle.ans_players.specs.declared.difference.Difference.{Difference}
use Rattle.ans_players.specs.Sync.{Sync, InSync, AfterWrap, AfterReturn, Stand}
use Rattle.ans_players.specs.Mends.{sequence}
use Rattle.ans_players.specs.Names.{Names, unnamed, names_behind}
use Rattle.ans_players.proofs.Spellings.{of_byte, one_up, home}
use Rattle.ans_redraw.specs.Colours.{colour_token, colours_to, numbers_to}
use Rattle.ans_redraw.specs.Form.{skip, over_few, over, line_end, set_back, is_coloured, black, blackened, down_and_up}
use Rattle.ans_redraw.specs.Form.{down, downward, row_place}
use Rattle.ans_redraw.proofs.ColourParts.{numbers_lead, some_number}
use Rattle.ans_picture_laws.proofs.ColourLaws.{AreCommon, named, numbers_are_common, numbers_keep}
use Rattle.ans_picture_laws.proofs.ColourLaws.{common_spelled, common_agreed, common_unmarked}
use Rattle.ans_picture_laws.proofs.ColourTexts.{number_down, number_place, unmarked_both, number_unmarked}
use Rattle.ans_picture_laws.proofs.Going.{Leads, stays, one_leads, both_lead}
use Rattle.ans_picture_laws.proofs.HalfDrawn.{blanks_are_there}
use Rattle.ans_picture_laws.proofs.Pieces.{stand, state_at, IsAt, is_within, LeadsOver, same_stand, few_lead}
use Rattle.ans_picture_laws.proofs.Pieces.{skips_lead}

module _ (z : Size) (cells : List Cell) (agreed : Difference → Bool) where
  -- ---- over blanks
  pub over_leads : (n k r c a : ℕ) (rest : List Cell) → IsAt z cells k r c → c + n < z.width
      → drop k cells ≡ replicate n (blank_cell 0x07) ++ rest
      → LeadsOver z cells agreed (over a n) n k r c a
  over_leads n k r c a rest h lt e =
      let q : ℕ = n / 255 in
      let m : ℕ = n % 255 in
      let sum : 255 * q + m ≡ n = div-add-mod n 255 in
      let few : m < 255 = mod-lt n (lit< tt) in
      let back : List Cell = replicate m (blank_cell 0x07) ++ rest in
      let parts : drop k cells ≡ replicate (255 * q) (blank_cell 0x07) ++ back =
      e ∙ ap (λ (j : ℕ). replicate j (blank_cell 0x07) ++ rest) (sym sum)
      ∙ ap (λ (v : List Cell). v ++ rest) (sym (replicate-append-replicate (255 * q) m (blank_cell 0x07)))
      ∙ append_assoc (replicate (255 * q) (blank_cell 0x07)) (replicate m (blank_cell 0x07)) rest in
      let one = skips_lead z cells agreed q k r c a back h (omega arith) parts in
      let further : IsAt z cells (k + 255 * q) r (c + 255 * q) =
      record { index_is = omega (arith, h.index_is); row_stated = h.row_stated; column = omega arith } in
      let within = is_within z cells (k + 255 * q) r (c + 255 * q) further in
      let there = blanks_are_there z cells (255 * q) k back parts (omega (arith, within)) in
      let more = few_lead z cells agreed m (k + 255 * q) r (c + 255 * q) a rest further (omega arith) (omega arith)
      there.left in
      subst (λ (v : Stand). Leads z agreed (stand z cells InSync k (at r c) a) (over a n) v)
      (same_stand z cells agreed (k + 255 * q + m) (k + n) r (c + 255 * q + m) (c + n) a (omega arith) (omega arith))
      (both_lead z agreed _ _ _ (replicate q (skip 255)) (over_few a m) one more)

  -- ---- colours
  -- numbers that all players take alike and that keep both colours named, wherever they stand
  common_lead : (g : Sync) (k a : ℕ) (p : Position) (ns : List ℕ) → AreCommon ns → (ns ≡ [] → ⊥)
      → fold names_behind named ns ≡ named
      → Leads z agreed (stand z cells g k p a) (colour_token ns ∷ []) (stand z cells g k p (attribute_after_all a ns))
  common_lead g k a p ns common some kept =
      one_leads z agreed (stand z cells g k p a) (colour_token ns) (stand z cells g k p (attribute_after_all a ns))
      (record {
        spelled = common_spelled ns common some;
        unmarked = common_unmarked ns common;
        allowed = record { no_static_fault = λ cause f. f; stays_above = tt };
        feeds_on = tt;
        agreed_there = rw (common_agreed z (stand z cells g k p a) ns common some) refl;
      })
      (ap (λ (m : Names). record (stand z cells g k p (attribute_after_all a ns)) { names = m }) kept)

  pub colours_to_lead : (g : Sync) (k from to : ℕ) (p : Position) → IsByte from → IsByte to
      → Leads z agreed (stand z cells g k p from) (colours_to from to) (stand z cells g k p to)
  colours_to_lead g k from to p h i = by_test (from == to) refl
    where
      by_test : (t : Bool) → (from == to) ≡ t
          → Leads z agreed (stand z cells g k p from) (if t then [] else colour_token (numbers_to from to) ∷ [])
          (stand z cells g k p to)
      by_test true e = stays z agreed _ _ (ap (λ (a : ℕ). stand z cells g k p a) (eqb-true from to e))
      by_test false e =
          subst (λ (a : ℕ). Leads z agreed (stand z cells g k p from) (colour_token (numbers_to from to) ∷ [])
          (stand z cells g k p a)) (numbers_lead from to h i)
          (common_lead g k from p (numbers_to from to) (numbers_are_common from to)
          (some_number from to h i (eqb-false from to e)) (numbers_keep from to))

  pub black_leads : (k a : ℕ) (p : Position) → IsByte a
      → Leads z agreed (stand z cells InSync k p a) (black a) (stand z cells InSync k p (blackened a))
  black_leads k a p h = by_test (is_coloured a)
    where
      by_test : (t : Bool)
          → Leads z agreed (stand z cells InSync k p a) (if t then colours_to a 0x07 else [])
          (stand z cells InSync k p (if t then 0x07 else a))
      by_test true = colours_to_lead InSync k a 0x07 p h (omega arith)
      by_test false = stays z agreed _ _ refl

  -- at the end neither colour is named
  abbrev pub ended : Sync → ℕ → Position → Stand
  ended g k p = record (stand z cells g k p 0x07) { names = unnamed }

  pub set_back_leads : (g : Sync) (k a : ℕ) (p : Position)
      → Leads z agreed (stand z cells g k p a) set_back (ended g k p)
  set_back_leads g k a p =
      let common : AreCommon (0 ∷ []) = record { common = refl; few = omega arith } in
      one_leads z agreed (stand z cells g k p a) (colour_token (0 ∷ [])) (ended g k p)
      (record {
        spelled = common_spelled (0 ∷ []) common (λ e. cc);
        unmarked = common_unmarked (0 ∷ []) common;
        allowed = record { no_static_fault = λ cause f. f; stays_above = tt };
        feeds_on = tt;
        agreed_there = rw (common_agreed z (stand z cells g k p a) (0 ∷ []) common (λ e. cc)) refl;
      })
      (ap (λ (b : ℕ). record (stand z cells g k p b) { names = unnamed }) (ap (λ (v : ℕ). bit_or v 0x07)
      (and_zero_r a)))

  -- ---- a line end
  -- the sync after its return
  abbrev returned : Bool → Sync
  returned first = if first then InSync else AfterReturn

  feed_leads : (first : Bool) (k r a : ℕ) → r + 1 < z.lines
      → Leads z agreed (stand z cells (returned first) k (at r 0) a)
      (record { token = LineFeed; text = 0x0A ∷ [] } ∷ []) (stand z cells InSync k (at (r + 1) 0) a)
  feed_leads true k r a on =
      one_leads z agreed _ _ _
      (record {
        spelled = of_byte 0x0A LineFeed (omega arith) (λ e. omega arith) refl;
        unmarked = refl;
        allowed = record { no_static_fault = λ cause f. f; stays_above = λ same. omega (arith, on) };
        feeds_on = on;
        agreed_there = refl;
      })
      (ap (λ (s : State). record { sync = InSync; names = named; state = s })
      (line_feed_is z (state_at z cells k (at r 0) a) (omega arith)))
  feed_leads false k r a on =
      one_leads z agreed _ _ _
      (record {
        spelled = of_byte 0x0A LineFeed (omega arith) (λ e. omega arith) refl;
        unmarked = refl;
        allowed = record { no_static_fault = λ cause f. f; stays_above = λ same. omega (arith, on) };
        feeds_on = on;
        agreed_there = refl;
      })
      (ap (λ (s : State). record { sync = InSync; names = named; state = s })
      (line_feed_is z (state_at z cells k (at r 0) a) (omega arith)))

  return_leads : (k r c a : ℕ)
      → Leads z agreed (stand z cells InSync k (at r c) a) (record { token = CarriageReturn; text = 0x0D ∷ [] } ∷ [])
      (stand z cells (returned (c == 0)) k (at r 0) a)
  return_leads k r c a =
      one_leads z agreed _ _ _
      (record {
        spelled = of_byte 0x0D CarriageReturn (omega arith) (λ e. omega arith) refl;
        unmarked = refl;
        allowed = record { no_static_fault = λ cause f. f; stays_above = tt };
        feeds_on = tt;
        agreed_there = refl;
      })
      refl

  pub line_end_leads : (k r c a : ℕ) → r + 1 < z.lines
      → Leads z agreed (stand z cells InSync k (at r c) a) line_end (stand z cells InSync k (at (r + 1) 0) a)
  line_end_leads k r c a on =
      both_lead z agreed _ _ _ (record { token = CarriageReturn; text = 0x0D ∷ [] } ∷ [])
      (record { token = LineFeed; text = 0x0A ∷ [] } ∷ []) (return_leads k r c a) (feed_leads (c == 0) k r a on)

  -- ---- down and back
  pub down_and_up_leads : (k r a : ℕ) → r + 1 < z.lines
      → Leads z agreed (stand z cells InSync k (at r 0) a) down_and_up (stand z cells InSync k (at r 0) a)
  down_and_up_leads k r a on =
      let back : (r + 1) - 1 ≡ r = omega arith in
      both_lead z agreed _ (stand z cells InSync k (at (r + 1) 0) a) _
      (record { token = LineFeed; text = 0x0A ∷ [] } ∷ []) (sequence (Up 1) (codes "[A") ∷ [])
      (feed_leads true k r a on)
      (one_leads z agreed _ _ _
      (record {
        spelled = one_up;
        unmarked = refl;
        allowed = record { no_static_fault = λ cause f. f; stays_above = tt };
        feeds_on = tt;
        agreed_there = refl;
      })
      (ap (λ (row : ℕ). stand z cells InSync k (at row 0) a) back))

  -- ---- the place of a row
  down_leads : (n k r a : ℕ) → 0 < n → n ≤ 255 → r + n ≤ z.lines
      → Leads z agreed (stand z cells InSync k (at r 0) a) (down n ∷ []) (stand z cells InSync k (at (r + n) 0) a)
  down_leads n k r a some few le =
      let stops : min (r + n) z.lines ≡ r + n = omega arith in
      one_leads z agreed _ _ _
      (record {
        spelled = number_down n some few;
        unmarked = unmarked_both (decimal n) (codes "B") (number_unmarked n (omega arith)) refl;
        allowed = record { no_static_fault = λ cause f. f; stays_above = tt };
        feeds_on = tt;
        agreed_there = rw (le-ltb z.lines (r + n) le) refl;
      })
      (ap (λ (row : ℕ). stand z cells InSync k (at row 0) a) stops)

  downs_lead : (q k r a : ℕ) → r + 255 * q ≤ z.lines
      → Leads z agreed (stand z cells InSync k (at r 0) a) (replicate q (down 255))
      (stand z cells InSync k (at (r + 255 * q) 0) a)
  downs_lead zero k r a le =
      let same : r ≡ r + 255 * 0 = omega arith in
      stays z agreed _ _ (ap (λ (row : ℕ). stand z cells InSync k (at row 0) a) same)
  downs_lead (suc q) k r a le =
      let sum : r + 255 + 255 * q ≡ r + 255 * suc q = omega arith in
      subst (λ (row : ℕ). Leads z agreed (stand z cells InSync k (at r 0) a) (replicate (suc q) (down 255))
      (stand z cells InSync k (at row 0) a)) sum
      (both_lead z agreed _ (stand z cells InSync k (at (r + 255) 0) a) _ (down 255 ∷ []) (replicate q (down 255))
      (down_leads 255 k r a (omega arith) (omega arith) (omega arith)) (downs_lead q k (r + 255) a (omega arith)))

  last_down : (n k r a : ℕ) → n < 255 → r + n ≤ z.lines
      → Leads z agreed (stand z cells InSync k (at r 0) a) (if n == 0 then [] else down n ∷ [])
      (stand z cells InSync k (at (r + n) 0) a)
  last_down n k r a few le = by_test (n == 0) refl
    where
      by_test : (t : Bool) → (n == 0) ≡ t
          → Leads z agreed (stand z cells InSync k (at r 0) a) (if t then [] else down n ∷ [])
          (stand z cells InSync k (at (r + n) 0) a)
      by_test true e =
          let none : n ≡ 0 = eqb-true n 0 e in
          let same : r ≡ r + n = omega arith in
          stays z agreed _ _ (ap (λ (row : ℕ). stand z cells InSync k (at row 0) a) same)
      by_test false e =
          let some : n ≡ 0 → ⊥ = eqb-false n 0 e in
          down_leads n k r a (omega arith) (omega arith) le

  downward_leads : (n k a : ℕ) → n ≤ z.lines
      → Leads z agreed (stand z cells InSync k (at 0 0) a) (downward n) (stand z cells InSync k (at n 0) a)
  downward_leads n k a le =
      let sum : 255 * (n / 255) + n % 255 ≡ n = div-add-mod n 255 in
      let few : n % 255 < 255 = mod-lt n (lit< tt) in
      let all : 0 + 255 * (n / 255) + n % 255 ≡ n = omega arith in
      subst (λ (row : ℕ). Leads z agreed (stand z cells InSync k (at 0 0) a) (downward n)
      (stand z cells InSync k (at row 0) a)) all
      (both_lead z agreed _ (stand z cells InSync k (at (0 + 255 * (n / 255)) 0) a) _ (replicate (n / 255) (down 255))
      (if n % 255 == 0 then [] else down (n % 255) ∷ [])
      (downs_lead (n / 255) k 0 a (omega arith)) (last_down (n % 255) k (0 + 255 * (n / 255)) a few (omega arith)))

  -- a place of a stated row is on the screen
  placed : (n k a : ℕ) (p : Position) (text : List ℕ) → 0 < n → n ≤ z.lines → 0 < z.width
      → SpellsToken (Place n 1) text → list_any is_end_mark text ≡ false
      → Leads z agreed (stand z cells AfterWrap k p a) (record { token = Place n 1; text = text } ∷ [])
      (stand z cells InSync k (at (n - 1) 0) a)
  placed n k a p text some le columns is_spelled no_mark =
      let row : min (n - 1) z.lines ≡ n - 1 = omega arith in
      let column : min (1 - 1) (z.width - 1) ≡ 0 = omega arith in
      one_leads z agreed _ _ _
      (record {
        spelled = is_spelled;
        unmarked = no_mark;
        allowed = record {
          no_static_fault = λ cause. place_is_within z n cause (omega arith) columns;
          stays_above = tt;
        };
        feeds_on = tt;
        agreed_there = refl;
      })
      (ap₂ (λ (i j : ℕ). stand z cells InSync k (at i j) a) row column)

  pub row_place_leads : (n k a : ℕ) (p : Position) → 0 < n → n ≤ z.lines → 0 < z.width
      → Leads z agreed (stand z cells AfterWrap k p a) (row_place n) (stand z cells InSync k (at (n - 1) 0) a)
  row_place_leads n k a p some le columns = by_test (nat_le n 255) refl
    where
      by_test : (t : Bool) → nat_le n 255 ≡ t
          → Leads z agreed (stand z cells AfterWrap k p a)
          (if t then sequence (Place n 1) (bracket ∷ (decimal n ++ codes "H")) ∷ []
          else sequence (Place 1 1) (codes "[H") ∷ downward (n - 1))
          (stand z cells InSync k (at (n - 1) 0) a)
      by_test true e =
          let few : n ≤ 255 = leb-true n 255 e in
          placed n k a p (escape ∷ bracket ∷ (decimal n ++ codes "H")) some le columns (number_place n some few)
          (unmarked_both (decimal n) (codes "H") (number_unmarked n (omega arith)) refl)
      by_test false e =
          both_lead z agreed _ (stand z cells InSync k (at 0 0) a) _ (sequence (Place 1 1) (codes "[H") ∷ [])
          (downward (n - 1))
          (placed 1 k a p (escape ∷ codes "[H") (omega arith) (omega arith) columns home refl)
          (downward_leads (n - 1) k a (omega arith))
