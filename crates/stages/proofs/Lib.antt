mod StagesLaws
mod Owned
