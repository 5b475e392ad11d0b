-- Plain bytes: of players that are in sync only own colours arise at them.
use Rattle.std.proofs.Common.{◌≡◌, ℕ, ◌<◌, ◌≤◌, Bool, false, not, [], ◌∷◌, refl, arith}
use Rattle.std.specs.Prelude.{IsTrue, ◌&&◌, ◌||◌, ◌==◌, nat_le}
use Rattle.std.proofs.lemmas.Bool.{and_parts, leb-true, lt-leb, ne_eqb, not-true, or_from}
use Rattle.std.proofs.lemmas.Bool.{and_right}
use Rattle.ans_model.specs.Sequence.TokenKind.{Glyph}
use Rattle.ans_model.specs.Screen.State.{Size, State}
use Rattle.ans_players.specs.Sync as sync
use Rattle.ans_players.specs.Names.{Names, are_both}
use Rattle.ans_players.specs.Situations.{is_page_control, is_terminal_control, kind_if, situations}
use Rattle.ans_players.specs.declared.difference.Difference.TheVariants.{OwnColours}
use Rattle.ans_tokens.specs.Walk.{is_foreign, is_plain}
use Rattle.ans_kinds.proofs.KindsFound.{one}

-- a byte is none of those between two, if it is above them
pub outside_above : (b first last : ℕ) → last < b → (nat_le first b && nat_le b last) ≡ false
outside_above b first last above = and_right (nat_le first b) (nat_le b last) (lt-leb b last above)

pub other_than : (b n : ℕ) → (b ≡ n → ⊥) → (b == n) ≡ false
other_than b n apart = ne_eqb b n apart

module _ (b : ℕ) (plain : IsTrue (is_plain b)) where
  abbrev printed : Bool
  printed = nat_le 0x20 b

  abbrev no_delete : Bool
  no_delete = not (b == 0x7F)

  parts : IsTrue printed × (IsTrue no_delete × IsTrue (not (is_foreign b)))
  parts =
      let last = and_parts (printed && no_delete) (not (is_foreign b)) plain in
      let first = and_parts printed no_delete last.0 in
      (first.0, (first.1, last.1))

  low : 0x20 ≤ b
  low = leb-true 0x20 b parts.0

  no_page : is_page_control b ≡ false
  no_page =
      or_from (b == 0x00 || b == 0x0B) (b == 0x0C)
      (or_from (b == 0x00) (b == 0x0B) (other_than b 0x00 (λ e. absurd (omega (arith, e, low))))
      (other_than b 0x0B (λ e. absurd (omega (arith, e, low)))))
      (other_than b 0x0C (λ e. absurd (omega (arith, e, low))))

  no_terminal : is_terminal_control b ≡ false
  no_terminal =
      let first = outside_above b 0x01 0x06 (omega (arith, low)) in
      let second = outside_above b 0x0E 0x19 (omega (arith, low)) in
      let third = outside_above b 0x1C 0x1F (omega (arith, low)) in
      or_from _ (b == 0x7F) (or_from _ _ (or_from _ _ first second) third) (not-true (b == 0x7F) parts.1.0)

  -- of players that are in sync only own colours arise
  pub plain_kinds : (z : Size) (s : State) (n : Names)
      → situations z (record { sync = sync.InSync; names = n; state = s }) (one (Glyph b) (b ∷ []))
      ≡ kind_if (not (are_both n)) OwnColours
  plain_kinds z s n = rw (no_page, no_terminal) refl
