pub mod HashedLaws
