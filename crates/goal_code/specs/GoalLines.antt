-- What lines are written for a goal.
use Rattle.std.specs.Prelude.{◌≡◌, ℕ, ◌+◌, ◌*◌, Bool, true, false, List, [], ◌∷◌, ◌++◌, Option, Some, None, length}
use Rattle.std.specs.List.{list_all, sum_by}
use Rattle.bam_code.specs.declared.line.Line.{Line}
use Rattle.bam_code.specs.declared.line.Line.TheVariants as line
use Rattle.bam_code.specs.declared.source.Source.{Source}
use Rattle.kernel_ir.specs.declared.kernel_clause.KernelClause.{KernelClause}
use Rattle.kernel_ir.specs.declared.kernel_goal.KernelGoal.{KernelGoal}
use Rattle.kernel_ir.specs.declared.kernel_goal.KernelGoal.TheVariants as goal
use Rattle.unify_special.specs.Places.{place_of, source_of}
use Rattle.unify_special.specs.declared.picture.Picture.{Picture}
use Rattle.unify_special.specs.declared.place.Place.{Place}

-- unifications, built-ins and cuts: the clause goes on behind it in its own code
abbrev pub is_plain : KernelGoal → Bool
is_plain (goal.Unify v t) = true
is_plain (goal.Builtin b ts) = true
is_plain goal.Cut = true
is_plain (goal.CutTo v) = true
is_plain _ = false

abbrev pub is_plain_clause : KernelClause → Bool
is_plain_clause clause = list_all is_plain clause.goals

abbrev pub is_call : KernelGoal → Bool
is_call (goal.Call name ts) = true
is_call _ = false

-- how many words a plain goal moves at most
abbrev pub most_moves : KernelGoal → ℕ
most_moves (goal.Unify v t) = 2
most_moves (goal.Builtin b ts) = 3 * length ts + 1
most_moves _ = 0

abbrev pub most_moves_of : List KernelGoal → ℕ
most_moves_of gs = sum_by most_moves gs

abbrev pub cut_to : Option Source → List Line
cut_to None = []
cut_to (Some choices) = line.Cut choices ∷ []

-- the cut to the number of choices that stands there
abbrev pub cut_lines : Place → List Line
cut_lines place = cut_to (source_of place)

-- a cut and a failing are one line each
abbrev pub WritesFor : Picture → KernelGoal → List Line → List Line → Type 0
WritesFor picture goal.Cut old new = new ≡ old ++ cut_lines picture.depth
WritesFor picture (goal.CutTo v) old new = new ≡ old ++ cut_lines (place_of picture.places v)
WritesFor picture goal.Fail old new = new ≡ old ++ line.Fail ∷ []
WritesFor picture _ old new = Unit {0}
