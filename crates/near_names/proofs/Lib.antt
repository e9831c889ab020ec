pub mod NearLaws
