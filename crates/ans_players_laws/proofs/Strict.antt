-- The strictest player.
use Rattle.std.proofs.Common.{◌≡◌, inl, inr, ℕ, zero, suc, ◌+◌, ◌*◌, ◌<◌, Bool, false, List, [], ◌∷◌, fold}
use Rattle.std.proofs.Common.{◌≤◌, take, refl, ap, ◌∙◌, sym, Option, Some, None, arith, length}
use Rattle.std.proofs.lemmas.Bool.{cases_Bool}
use Rattle.std.proofs.lemmas.Option.{slice_get-get_or}
use Rattle.std.proofs.lemmas.Nat.{mul-le}
use Rattle.std.specs.Prelude.{slice_get, if◌then◌else◌, IsTrue}
use Rattle.ans_model.specs.Screen.State.{Size, at, cell_at}
use Rattle.ans_model.specs.declared.cell.Position.{Position}
use Rattle.ans_model.specs.declared.start.Start.{Start}
use Rattle.ans_model.specs.Verdict.Good.{Picture, GoodWith, IsPictureOf}
use Rattle.ans_players.specs.declared.difference.Difference.{Difference}
use Rattle.ans_players.specs.Sync.{Stand, synced}
use Rattle.ans_players.specs.Players.{IsShown}
use Rattle.ans_players.specs.Situations.{Spelled, AreAgreed, is_agreed, spelled, stand_behind, stand_of}
use Rattle.ans_players_laws.specs.Witnesses.{strictest, strict_step, strict_cells, IsStrictPlayer, StrictTells}
use Rattle.ans_players_laws.proofs.Everywhere.{good_is_shown}

module _ (z : Size) (agreed : Difference → Bool) where
  shows_cells : (m : Option Stand) (h : Stand) (p : Position) → m ≡ Some h
      → strict_cells z m p ≡ cell_at z h.state.screen p
  shows_cells m h p e = ap (λ (v : Option Stand). strict_cells z v p) e

  along : (m : Option Stand) (h : Stand) (t : Spelled) → m ≡ Some h → IsTrue (is_agreed agreed z h t)
      → strict_step agreed z m t ≡ Some (stand_behind z h t)
  along m h t e a =
      ap (λ (v : Option Stand). strict_step agreed z v t) e
      ∙ ap (λ (b : Bool). if b then Some (stand_behind z h t) else None) a

  -- nothing comes back
  stays_broken : (tokens : List Spelled) → fold (strict_step agreed z) None tokens ≡ None
  stays_broken [] = refl
  stays_broken (t ∷ ts) = stays_broken ts

  breaks : (tokens : List Spelled) (h : Stand) (k : ℕ) (t : Spelled) → slice_get tokens k ≡ Some t
      → is_agreed agreed z (fold (stand_behind z) h (take k tokens)) t ≡ false
      → fold (strict_step agreed z) (Some h) tokens ≡ None
  breaks [] h k t e not_agreed = absurd (let no : ⊥ = cc in no)
  breaks (u ∷ us) h zero t e not_agreed =
      let same : u ≡ t = cc in
      let stops : is_agreed agreed z h u ≡ false =
      ap (λ (v : Spelled). is_agreed agreed z h v) same ∙ not_agreed in
      ap (λ (m : Option Stand). fold (strict_step agreed z) m us)
      (ap (λ (b : Bool). if b then Some (stand_behind z h u) else None) stops) ∙ stays_broken us
  breaks (u ∷ us) h (suc k) t e not_agreed = elim (cases_Bool (is_agreed agreed z h u)) [
    | inl goes ↦ ap (λ (m : Option Stand). fold (strict_step agreed z) m us)
        (ap (λ (b : Bool). if b then Some (stand_behind z h u) else None) goes)
        ∙ breaks us (stand_behind z h u) k t e not_agreed
    | inr stops ↦ ap (λ (m : Option Stand). fold (strict_step agreed z) m us)
        (ap (λ (b : Bool). if b then Some (stand_behind z h u) else None) stops)
        ∙ stays_broken us
  ]

pub strict : IsStrictPlayer
strict z agreed = record {
  shows_the_same = λ m h p e stated. shows_cells z agreed m h p e;
  goes_along = λ m h t e allowed a. along z agreed m h t e a;
}

-- a picture has its first cell
first_cell : (z : Size) (picture : Picture) → 0 < z.width → 0 < z.lines → IsPictureOf z picture
    → None ≡ cell_at z picture.cells (at 0 0) → ⊥
first_cell z picture w l is e =
    let some : 1 * 1 ≤ z.lines * z.width = mul-le 1 1 z.lines z.width (omega arith) (omega arith) in
    let within : 0 * z.width + 0 < length picture.cells = omega (arith, is.count, some) in
    let there = slice_get-get_or picture.cells (0 * z.width + 0) (record { byte = 0; attribute = 0 }) within in
    cc

shown_is_agreed : (z : Size) (class : Start) (agreed : Difference → Bool) (content : List ℕ) (picture : Picture)
    → (good : GoodWith z class content picture)
    → IsShown (strictest agreed z) z class (spelled good.tokens good.reads.0) picture
    → AreAgreed agreed z class (spelled good.tokens good.reads.0)
shown_is_agreed z class agreed content picture good shown s k t start e = elim (cases_Bool
    (is_agreed agreed z (stand_of z s (take k (spelled good.tokens good.reads.0))) t)) [
      | inl goes ↦ goes
      | inr stops ↦ absurd (first_cell z picture good.size.some_columns good.size.some_lines good.shows.is_picture
          (sym (ap (λ (m : Option Stand). strict_cells z m (at 0 0))
          (breaks z agreed (spelled good.tokens good.reads.0) (synced s) k t e stops))
          ∙ shown (Some (synced s)) s (at 0 0) start refl (good.size.some_lines, good.size.some_columns)))
    ]

pub strict_tells : StrictTells
strict_tells z class agreed content picture good = (
  shown_is_agreed z class agreed content picture good,
  good_is_shown z agreed (strictest agreed z) (strict z agreed) class content picture good,
)
