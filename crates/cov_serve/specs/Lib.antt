pub mod Jobs
pub mod Laws
pub mod Program
pub mod Replicas
pub mod Statuses
pub mod TextServing
