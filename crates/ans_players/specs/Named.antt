-- What is said of a content: the kinds that arise from the cleared start, how often, and where first.
use Rattle.std.specs.Prelude.{◌≡◌, ◌↔◌, ℕ, ◌+◌, ◌<◌, Bool, IsTrue, List, [], ◌∷◌, length, map, take, slice_get}
use Rattle.std.specs.Prelude.{Some, if◌then◌else◌}
use Rattle.std.specs.List.{list_any, concat}
use Rattle.ans_model.specs.Screen.State.{Size}
use Rattle.ans_model.specs.Screen.StartClass.{cleared, all_known}
use Rattle.ans_model.specs.Verdict.Good.{IsGood}
use Rattle.ans_players.specs.declared.difference.Difference.{Difference}
use Rattle.ans_players.specs.Kinds.{is_kind}
use Rattle.ans_players.specs.Sync.{Stand, synced}
use Rattle.ans_players.specs.Situations.{Spelled, situations, spelled, stand_behind, stand_of, AreAgreed}

-- the kind arises at the token
abbrev pub arises : Difference → Size → Stand → Spelled → Bool
arises kind z h x = list_any (is_kind kind) (situations z h x)

-- at how many of the tokens it arises
abbrev pub times : Difference → Size → Stand → List Spelled → ℕ
times kind z h [] = 0
times kind z h (x ∷ xs) = (if arises kind z h x then 1 else 0) + times kind z (stand_behind z h x) xs

-- how often it arises from the cleared start
abbrev pub times_cleared : Difference → Size → List Spelled → ℕ
times_cleared kind z xs = times kind z (synced (cleared z)) xs

-- how many bytes the first k tokens have
abbrev pub bytes_before : ℕ → List Spelled → ℕ
bytes_before k xs = length (concat (map (λ x. x.text) (take k xs)))

-- From the cleared start the kind arises first at token k, counted from 0, which begins at this offset.
pub record ArisesFirst (kind : Difference) (z : Size) (xs : List Spelled) (offset : ℕ) : Type 0 where
  pub k : ℕ
  pub x : Spelled
  pub there : slice_get xs k ≡ Some x
  pub arises_there : IsTrue (arises kind z (stand_of z (cleared z) (take k xs)) x)
  pub not_before : times_cleared kind z (take k xs) ≡ 0
  pub offset_is : offset ≡ bytes_before k xs

-- What is said of a kind: from the cleared start it arises this often, the first time at this offset.
pub record IsNamed (z : Size) (content : List ℕ) (kind : Difference) (count offset : ℕ) : Type 0 where
  pub good : IsGood z all_known content
  pub count_is : times_cleared kind z (spelled good.1.tokens good.1.reads.0) ≡ count
  pub first : 0 < count → ArisesFirst kind z (spelled good.1.tokens good.1.reads.0) offset

-- The named kinds are the least that can be agreed: from the cleared start no kinds but agreed ones arise exactly where
-- each kind that arises is agreed.
abbrev pub NamedAreLeast : Type 0
NamedAreLeast = (z : Size) (content : List ℕ) (agreed : Difference → Bool) (good : IsGood z all_known content)
    → AreAgreed agreed z all_known (spelled good.1.tokens good.1.reads.0)
    ↔ ((kind : Difference) → 0 < times_cleared kind z (spelled good.1.tokens good.1.reads.0) → IsTrue (agreed kind))
