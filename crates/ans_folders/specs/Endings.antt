-- Files counted by their endings.
use Rattle.std.specs.Prelude.{◌≡◌, ℕ, ◌+◌, Bool, not, ◌&&◌, ◌==◌, [], String, if◌then◌else◌, map, nat_le, unwrap_or}
use Rattle.std.specs.BTreeMap.{BTreeMap, btree_map_len, get_by_text}
use Rattle.std.specs.Char.{to_ascii_lowercase}
use Rattle.std.specs.Path.{path_extension}
use Rattle.std.specs.Str.{bytes_eq}
use Rattle.std.specs.declared.alloc.Global.{Global}
use Rattle.ans_folders.specs.Paths.{Text}
use Rattle.ans_folders.specs.declared.endings.Endings.{Endings}
use Rattle.ans_folders.specs.declared.endings.TheConstants.{MOST_ENDINGS}

-- the ending of the file of this path, in lower case; nothing if it has none
abbrev pub ending_of : Text → Text
ending_of path = map to_ascii_lowercase (unwrap_or (path_extension path) [])

-- how many files there are with each ending
abbrev pub counts_of : Endings → BTreeMap (String Global) ℕ
counts_of endings = endings.counts

-- how many files there are with this ending
abbrev pub ending_count : Endings → Text → ℕ
ending_count endings ending = unwrap_or (get_by_text endings.counts ending) 0

-- how many files there are with further endings
abbrev pub further_count : Endings → ℕ
further_count endings = endings.further

-- whether an ending is one of those that are counted together
abbrev pub is_further : Endings → Text → Bool
is_further endings ending = ending_count endings ending == 0 && nat_le MOST_ENDINGS (btree_map_len endings.counts)

-- one file more, with this ending or with a further one
pub record CountsOneMore (old new : Endings) (ending : Text) : Type 0 where
  pub counts : (other : Text) → ending_count new other
      ≡ ending_count old other + (if bytes_eq other ending && not (is_further old ending) then 1 else 0)
  pub further : further_count new ≡ further_count old + (if is_further old ending then 1 else 0)
