-- Names that are made of the parts of a name.
use Rattle.std.specs.Prelude.{◌≡◌, ℕ, [], ◌∷◌, ◌++◌, Some, None, codes, decimal}
use Rattle.std.proofs.Common.{sym, ap, ◌∙◌, append_assoc}
use Rattle.std.specs.Path.{slash, dot, rsplit_once}
use Rattle.ans_save.specs.Names.{Name, front_of_split, last_of_split, fixed_at_split, fixed_name, beside_name}

-- beside a file in a folder
pub beside_in_folder : (target folder last : Name) (number : ℕ) → Some (folder, last) ≡ rsplit_once slash target
    → beside_name target number ≡ folder ++ (codes "/.anscheck-" ++ decimal number)
beside_in_folder target folder last number split =
    ap (λ s. front_of_split s ++ (codes ".anscheck-" ++ decimal number)) (sym split)
    ∙ append_assoc folder (slash ∷ []) (codes ".anscheck-" ++ decimal number)

-- beside a file without a folder
pub beside_alone : (target : Name) (number : ℕ) → None ≡ rsplit_once slash target
    → beside_name target number ≡ codes ".anscheck-" ++ decimal number
beside_alone target number split =
    ap (λ s. front_of_split s ++ (codes ".anscheck-" ++ decimal number)) (sym split)

-- a fixed file in a folder
pub fixed_in_folder : (name folder last : Name) → Some (folder, last) ≡ rsplit_once slash name
    → fixed_name name ≡ folder ++ (slash ∷ fixed_at_split last (rsplit_once dot last))
fixed_in_folder name folder last split =
    ap (λ s. front_of_split s ++ fixed_at_split (last_of_split name s) (rsplit_once dot (last_of_split name s)))
    (sym split)
    ∙ append_assoc folder (slash ∷ []) (fixed_at_split last (rsplit_once dot last))
