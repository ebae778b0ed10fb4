pub mod CrowdLaws
