-- Selections of clauses of which each has a key of its own.
use Rattle.std.specs.Prelude.{◌≡◌, ◌≤◌, List, vec_len}
use Rattle.std.specs.List.{All}
use Rattle.goal_code.specs.declared.selection.Group.{Group}
use Rattle.goal_code.specs.declared.selection.Groups.{Groups}
use Rattle.goal_code.specs.declared.selection.Selection.{Selection}
use Rattle.goal_code.specs.declared.selection.Sharing.TheVariants as sharing

-- no group has two clauses
abbrev pub AreSingle : List Group → Type 0
AreSingle groups = All (λ group. vec_len group.labels ≤ 1) groups

pub record IsAlone (groups : Groups) : Type 0 where
  pub never : groups.sharing ≡ sharing.Never
  pub single : AreSingle groups.groups.items

pub record EachIsAlone (selection : Selection) : Type 0 where
  pub atoms : IsAlone selection.atoms
  pub integers : IsAlone selection.integers
  pub lists : IsAlone selection.lists
  pub structures : IsAlone selection.structures
