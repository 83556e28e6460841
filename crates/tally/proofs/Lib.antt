pub mod FeedLaws
