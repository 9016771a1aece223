-- What identities stand for.
use Rattle.std.specs.Prelude.{ℕ, List, Option, Some, None, slice_get, slice_set}
use Rattle.bam_code.specs.declared.known.Known.{Known}
use Rattle.bam_code.specs.declared.known.Known.TheVariants as known
use Rattle.bam_types.specs.declared.identity.Identity.{Identity}
use Rattle.bam_types.specs.declared.identity.Identity.TheVariants as identity
use Rattle.bam_types.specs.WordTypes.{both_known}

-- what is known of the term of an identity, if it stands for one
abbrev pub known_of : Option Identity → Known
known_of None = known.Any
known_of (Some (identity.Term k)) = k
known_of (Some (identity.Own number)) = known.Any
known_of (Some identity.Made) = known.Any

-- what is known of the term of the identity of this number
abbrev pub known_at : List Identity → ℕ → Known
known_at identities number = known_of (slice_get identities number)

abbrev pub learned : List Identity → ℕ → Known → Option Identity → List Identity
learned identities number more None = identities
learned identities number more (Some (identity.Term before)) = slice_set identities number (identity.Term (both_known before more))
learned identities number more (Some (identity.Own own)) = identities
learned identities number more (Some identity.Made) = identities

-- the identities with more known of the term of this number. Of a hole nothing is known
abbrev pub learn : List Identity → ℕ → Known → List Identity
learn identities number more = learned identities number more (slice_get identities number)
