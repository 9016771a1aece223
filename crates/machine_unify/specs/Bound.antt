-- What binding changes.
use Rattle.std.specs.Prelude.{ℕ, ◌==◌, List, [], ◌∷◌, ◌++◌, nat_lt, min, max, slice_set, if◌then◌else◌}
use Rattle.tag_word.specs.declared.tag.Tag.{Tag}
use Rattle.tag_word.specs.declared.tag.Tag.TheVariants as tag
use Rattle.tag_word.specs.Tagged.{Tagged}
use Rattle.machine_store.specs.Areas.{Areas, ref_word, kept_heap}

-- a cell is set, and its index is on the trail where it is below the heap length that the newest choice keeps
abbrev pub assigned : ℕ → Tagged → Areas → Areas
assigned cell word areas =
    record areas {
      heap = slice_set areas.heap cell word;
      trail = (if nat_lt cell (kept_heap areas) then areas.trail ++ ref_word cell ∷ [] else areas.trail);
    }

-- of two unbound cells the higher one gets a reference to the lower one
abbrev pub joined : ℕ → ℕ → Areas → Areas
joined one other areas =
    if one == other then areas else assigned (max one other) (ref_word (min one other)) areas

-- an unbound cell is made equal to a dereferenced word of this tag and this value
abbrev pub bound_by : ℕ → Tag → ℕ → Areas → Areas
bound_by cell tag.Ref value areas = joined cell value areas
bound_by cell other value areas = assigned cell (record { tag = other; value = value }) areas

abbrev pub bound : ℕ → Tagged → Areas → Areas
bound cell word areas = bound_by cell word.tag word.value areas
