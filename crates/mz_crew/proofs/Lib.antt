pub mod AheadLaws
pub mod CrewLaws
pub mod CrossingLaws
pub mod WorkLaws
