mod LookupLaws
mod ListingLaws
mod ParametersLaws
mod DeclaresLaws
mod TypeLaws
mod FillingLaws
mod EdgeLaws
mod SignaturesLaws
