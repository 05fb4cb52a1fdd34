mod GatheringLaws
mod Turning
mod FittingLaws
mod NotingLaws
