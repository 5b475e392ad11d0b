-- What an error of the words tells.
use Rattle.std.proofs.Common.{◌≡◌, List, [], ◌∷◌, inl, inr}
use Rattle.clap.specs.Words.{Kinds, Text}
use Rattle.ans_options.specs.CommandLine.{HasKindAmong, IsErrorOf, RanOutOfMemory}
use Rattle.ans_options.specs.declared.command_line.WordsError.{WordsError}
use Rattle.ans_options.specs.declared.command_line.WordsError.TheVariants.{Clap, Memory}

-- want of memory may come of any words
pub out_of_memory : (words : List Text) (e : WordsError) → e ≡ Memory → IsErrorOf words e
out_of_memory words e is = rw is (record { refuses = λ taken. tt; faultless = λ none. tt; kinds = tt })

-- an error of no kind is want of memory
pub ran_out : (kinds : Kinds) (e : WordsError) → HasKindAmong kinds e → kinds ≡ [] → RanOutOfMemory e
ran_out kinds Memory has none = tt
ran_out kinds (Clap e) (inl memory) none = memory
ran_out [] (Clap e) (inr among) none = absurd among
ran_out (k ∷ ks) (Clap e) (inr among) none = cc
