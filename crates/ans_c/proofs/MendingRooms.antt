-- Where there is no room to mend a file.
use Rattle.std.proofs.Common.{◌≡◌, ◌⊎◌, inl, inr, ℕ, ◌+◌, ◌-◌, ◌<◌, ◌≤◌, Bool, true, false, List, ◌++◌, length, ap}
use Rattle.std.proofs.Common.{arith, subst}
use Rattle.std.proofs.lemmas.List.{length-append}
use Rattle.ans_model.specs.Screen.Beginning.{mending}
use Rattle.ans_mend.specs.Drafts.{DraftView, draft_of}
use Rattle.ans_model.specs.declared.mends.Mends.{Mends}
use Rattle.ans_verdict.specs.LentScreen.{HasScreen}
use Rattle.ans_mend.specs.Mending.{front_bytes}
use Rattle.ans_mend.specs.MendingRoom.{LacksRoom, LacksScreenInTheEnd, most_put}
use Rattle.ans_c.specs.Told.{LacksMendingRoom}

front_short : (front : Bool) → length (front_bytes front) ≤ length mending
front_short true = omega arith
front_short false = omega arith

-- the mended file is too long for the array
pub lacks_place : (mends : Mends) (file beginning rest : List ℕ) (rows bytes memory array : ℕ) (front : Bool)
    → beginning ≡ front_bytes front → length rest ≤ length file + most_put mends file
    → array < length (beginning ++ rest) → LacksMendingRoom mends file rows bytes memory array
lacks_place mends file beginning rest rows bytes memory array front is longer few =
    let all = length-append beginning rest in
    let same = ap length is in
    let short = front_short front in
    inr (inr (omega (arith, few, all, same, short, longer)))

-- the draft has no room for what is put, or there is no screen
pub lacks_draft : (mends : Mends) (file : List ℕ) (rows bytes memory array : ℕ) (draft : DraftView)
    → draft ≡ draft_of file (memory - length file)
    → LacksRoom mends draft ⊎ LacksScreenInTheEnd (λ z. ¬ HasScreen z rows bytes) mends draft.file
    → LacksMendingRoom mends file rows bytes memory array
lacks_draft mends file rows bytes memory array draft is (inl few) =
    let less : memory - length file < most_put mends file = subst (LacksRoom mends) is few in
    inl (omega (arith, less))
lacks_draft mends file rows bytes memory array draft is (inr none) =
    inr (inl (subst (λ (d : DraftView). LacksScreenInTheEnd (λ z. ¬ HasScreen z rows bytes) mends d.file) is none))
