-- The flags of mend: what each is called, and what it asks for.
use Rattle.std.specs.Prelude.{ℕ, Bool, List, [], ◌∷◌, codes}
use Rattle.ans_model.specs.declared.mends.MendStep.{MendStep}
use Rattle.ans_model.specs.declared.mends.MendStep.TheVariants.{TakeOut, Crlf, JoinRows, Mixed, NameColours, Ice}
use Rattle.ans_model.specs.declared.mends.MendStep.TheVariants.{RepairRecord, LeastLines}
use Rattle.ans_model.specs.declared.mends.MendFlag.{MendFlag}
use Rattle.ans_model.specs.declared.mends.Mends.{Mends}

-- a flag without its help
pub record FlagRow : Type 0 where
  pub step : MendStep
  pub name : List ℕ
  pub bit : ℕ

abbrev pub flag_row : MendStep → List ℕ → ℕ → FlagRow
flag_row step name bit = record { step = step; name = name; bit = bit }

-- the flags, in the order of the help
abbrev pub mend_flags : List FlagRow
mend_flags =
    flag_row TakeOut (codes "take-out") 1
    ∷ flag_row Crlf (codes "crlf") 2
    ∷ flag_row JoinRows (codes "join-rows") 4
    ∷ flag_row Mixed (codes "mixed") 32
    ∷ flag_row NameColours (codes "name-colours") 16
    ∷ flag_row Ice (codes "ice") 64
    ∷ flag_row RepairRecord (codes "record") 128
    ∷ flag_row LeastLines (codes "least-lines") 8
    ∷ []

-- what the program's table has of one
abbrev pub row_of_flag : MendFlag → FlagRow
row_of_flag f = flag_row f.step f.name.now f.bit

-- with this step asked for, or not
abbrev pub with_step : MendStep → Bool → Mends → Mends
with_step TakeOut asked mends = record mends { take_out = asked }
with_step Crlf asked mends = record mends { crlf = asked }
with_step JoinRows asked mends = record mends { join_rows = asked }
with_step Mixed asked mends = record mends { mixed = asked }
with_step NameColours asked mends = record mends { name_colours = asked }
with_step Ice asked mends = record mends { ice = asked }
with_step RepairRecord asked mends = record mends { repair_record = asked }
with_step LeastLines asked mends = record mends { least_lines = asked }

-- with each step asked for whose flag is given
abbrev pub with_given : (FlagRow → Bool) → Mends → List FlagRow → Mends
with_given is_given mends [] = mends
with_given is_given mends (f ∷ more) = with_given is_given (with_step f.step (is_given f) mends) more
