-- Why a file was not opened.
use Rattle.std.specs.Prelude.{ℕ, Bool, true, false, List, codes}
use Rattle.std.specs.declared.io.ErrorKind.{ErrorKind}
use Rattle.std.specs.declared.io.ErrorKind.TheVariants as kind
use Rattle.ans_table.specs.declared.unopened.Unopened.{Unopened}
use Rattle.ans_table.specs.declared.unopened.Unopened.TheVariants.{Missing, Denied, Folder, Other}

-- the reason, by the kind of the system's error
abbrev pub unopened_of : ErrorKind → Unopened
unopened_of kind.NotFound = Missing
unopened_of kind.PermissionDenied = Denied
unopened_of kind.IsADirectory = Folder
unopened_of _ = Other

-- the reason in words
abbrev pub reason_text : Unopened → List ℕ
reason_text Missing = codes "no such file"
reason_text Denied = codes "permission denied"
reason_text Folder = codes "is a folder"
reason_text Other = codes "cannot open the file"

-- the same without the reason
abbrev pub plain_text : Unopened → List ℕ
plain_text Folder = codes "cannot read the file"
plain_text _ = codes "cannot open the file"

-- whether there is no such file
abbrev pub is_missing : Unopened → Bool
is_missing Missing = true
is_missing _ = false
